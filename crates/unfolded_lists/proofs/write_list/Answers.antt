-- `unfolded_lists::write_list` meets its contract.
use native.Mathlib.Omega.{arith}
use mathlib.Core.Path.{◌≡◌, ◌∙◌, sym}
use lib.Dec.{ltb}
use lib.ListN.{length}
use Rattle.model.specs.Unfolding.{basic}
use Rattle.std.specs.Prelude.{Ok}
use Rattle.refusal.specs.Answer.{Judged, need, fitting}
use Rattle.table.specs.Decoded.{net_of}
use Rattle.tally.specs.Having.{list_of}
use Rattle.layout.specs.Unfolds.{unfolding_of}
use Rattle.layout.proofs.Limits.{unfolds_passed, unfolds_on}
use Rattle.unfolding.proofs.Owners.{within_laid}
use Rattle.unfolded_lists.specs.Calls.{unfolded_list_of}
use Rattle.unfolded_lists.proofs.Answers.{kept, listing_past, listing_short, listing_fine, listed_fine}
use Rattle.segments.proofs.Ranged.{ranged_length}
use borrow.Author.Rules.{rules}
use Rattle.unfolded_lists.proofs.write_list.Goals as goal

pub returns-in_err-events : goal.returns-in_err-events
unfolding unfolded_list_of
returns-in_err-events c =
    let same : c.from_residual.result ≡ c.lay_out.result = search rules in
    let n = net_of c.args.table.now in
    let own = need (ltb c.args.j.0 (basic n).events) 10 0 (fitting (length (list_of (basic n) c.args.post c.args.j.0)) (length c.args.out.now)) in
    let told : c.lay_out.result ≡ unfolding_of c.args.table.now own = unfolds_passed c.args.table.now own (net_of c.args.table.now).events c.lay_out.ensures.answer c.in_err-events.was in
    record {
      answer = same ∙ told;
      after = kept c.args.table.now c.args.post c.args.j.0 c.args.out.now (sym told ∙ c.in_err-events.was);
    }

pub owner-requires : goal.owner-requires
owner-requires c =
    within_laid c.args.table.now c.lay_out.new.markers c.lay_out.new.users c.lay_out.new.bases c.in_ok-events.events (c.lay_out.ensures.laid c.in_ok-events.events c.in_ok-events.was) (unfolds_on c.args.table.now (Ok 0) (net_of c.args.table.now).events c.lay_out.ensures.answer c.in_ok-events.was).1

pub returns-in_default : goal.returns-in_default
returns-in_default c =
    let u : (own : Judged) → unfolding_of c.args.table.now own ≡ own = λ own. (unfolds_on c.args.table.now own (net_of c.args.table.now).events c.lay_out.ensures.answer c.in_ok-events.was).0 in
    let past = listing_past c.args.table.now c.args.post c.args.j.0 c.args.out.now u (rw c.in_default.is at c.owner.ensures) in
    record {
      answer = c.refused.ensures ∙ past;
      after = kept c.args.table.now c.args.post c.args.j.0 c.args.out.now (sym past);
    }

pub ranges-k-requires : goal.ranges-k-requires
ranges-k-requires c =
    let o = c.in-Some.ensures in
    record {
      owned = record { laid = c.lay_out.ensures.laid c.in_ok-events.events c.in_ok-events.was; event = o.event; offset = o.offset; whole = o.whole; below = o.below };
      starts_len = (search rules, search rules);
    }

pub total-needed-requires : goal.total-needed-requires
total-needed-requires c =
    record {
      ranges_bound = omega (arith, c.ranges-k.ensures.few);
      ranges_in_bounds = omega (arith, c.ranges-k.ensures.few);
    }

pub returns-then-out-needed : goal.returns-then-out-needed
returns-then-out-needed c =
    let u : (own : Judged) → unfolding_of c.args.table.now own ≡ own = λ own. (unfolds_on c.args.table.now own (net_of c.args.table.now).events c.lay_out.ensures.answer c.in_ok-events.was).0 in
    let o = c.in-Some.ensures in
    let short = listing_short c.args.table.now c.args.post c.args.j.0 c.args.out.now u o c.ranges-k.new.starts c.ranges-k.new.sizes c.ranges-k.result c.ranges-k.ensures c.total-needed.result c.total-needed.ensures c.if-out-needed.true in
    record {
      answer = c.refused-then-out-needed.ensures ∙ short;
      after = kept c.args.table.now c.args.post c.args.j.0 c.args.out.now (sym short);
    }

pub put_ranges-requires : goal.put_ranges-requires
put_ranges-requires c =
    record {
      low = c.ranges-k.ensures.low;
      enough = omega (arith, ranged_length c.ranges-k.new.starts c.ranges-k.new.sizes c.ranges-k.result, c.total-needed.ensures, c.if-out-needed.false);
      in_starts = omega (arith, c.ranges-k.ensures.few);
      in_sizes = omega (arith, c.ranges-k.ensures.few);
    }

pub returns : goal.returns
returns c =
    let u : (own : Judged) → unfolding_of c.args.table.now own ≡ own = λ own. (unfolds_on c.args.table.now own (net_of c.args.table.now).events c.lay_out.ensures.answer c.in_ok-events.was).0 in
    let o = c.in-Some.ensures in
    record {
      answer = listing_fine c.args.table.now c.args.post c.args.j.0 c.args.out.now u o c.ranges-k.new.starts c.ranges-k.new.sizes c.ranges-k.result c.ranges-k.ensures c.total-needed.result c.total-needed.ensures c.if-out-needed.false;
      after = c.put_ranges.ensures ∙ listed_fine c.args.table.now c.args.post c.args.j.0 c.args.out.now u o c.ranges-k.new.starts c.ranges-k.new.sizes c.ranges-k.result c.ranges-k.ensures c.total-needed.result c.total-needed.ensures c.if-out-needed.false;
    }
