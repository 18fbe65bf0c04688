-- `parts::post_part` meets its contract.
use Rattle.table.specs.Decoded.{net_of}
use mathlib.Core.Path.{◌∙◌, sym, ap, refl}
use native.Mathlib.Omega.{arith}
use Prim.Native.Nat.{ℕ, ◌+◌, ◌*◌}
use Rattle.words.specs.Words.{words}
use Rattle.records.specs.Records.{pre_count, post_part}
use Rattle.parts.specs.Asked.{post_part_of, post_place_of}
use Rattle.parts.proofs.Asking.{list_post, list_none}
use Rattle.parts.proofs.Shown.{shown_none, place_none, shown_at_lem, place_at, asked_room}
use Rattle.parts.proofs.post_part.Goals as goal

pub returns-in_default : goal.returns-in_default
unfolding post_part_of post_place_of
returns-in_default c =
    let t = c.in_default.is in
    let s = c.args.table.now in
    let none = place_none c.asked-r.ensures t (λ (x : ℕ). x + 8 + 2 * pre_count s x) in
    record {
      shown = record { reads = shown_none c.asked-r.ensures t (post_part s); within = refl; begins = omega arith };
      read = list_none s _ _ (net_of s).postconditions (sym c.asked-r.ensures ∙ t);
    }

pub returns : goal.returns
unfolding post_part_of post_place_of
returns c =
    let s = c.args.table.now in
    let found = sym c.asked-r.ensures ∙ c.in-Ok.is in
    let room = asked_room s _ _ found in
    let p = c.post_at.ensures in
    let at = place_at c.asked-r.ensures c.in-Ok.is s (λ (x : ℕ). x + 8 + 2 * pre_count s x) (omega arith) in record {
      shown = record { reads = p.reads ∙ shown_at_lem c.asked-r.ensures c.in-Ok.is (post_part s); within = p.within; begins = omega arith };
      read = ap words p.reads ∙ list_post s _ _ found;
    }
