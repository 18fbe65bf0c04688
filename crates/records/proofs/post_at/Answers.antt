-- `records::post_at` meets its contract.
use native.Mathlib.Omega.{arith}
use mathlib.Core.Path.{refl, ◌∙◌, sym, ap}
use Prim.Native.Nat.{ℕ, ◌+◌, ◌*◌}
use Rattle.records.specs.Records.{part, pre_count, post_count}
use Rattle.records.specs.Parts.{place_in}
use Rattle.records.proofs.Parts.{part_none, place_out}
use Rattle.records.proofs.post_at.Goals as goal

pub returns-then-s-at : goal.returns-then-s-at
returns-then-s-at c =
    let s = c.before.before.before.args.s.now in
    let at = c.before.before.before.args.at in
    let a = at + 8 + 2 * pre_count s at in
    record { reads = sym (part_none s a (2 * post_count s at) (omega arith)); within = refl; begins = omega (arith, place_out s a (omega arith)) }

pub returns : goal.returns
returns c =
    let s = c.args.s.now in
    let at = c.args.at in
    let p = c.shown.ensures in
    record {
      reads = p.reads
          ∙ ap (λ (w : ℕ). part s (at + 8 + 2 * w) (2 * c.word-z.result)) c.word-a.ensures
          ∙ ap (λ (w : ℕ). part s (at + 8 + 2 * pre_count s at) (2 * w)) c.word-z.ensures;
      within = p.within;
      begins = omega (arith, ap (λ (w : ℕ). place_in s (at + 8 + 2 * w)) c.word-a.ensures, p.begins);
    }
