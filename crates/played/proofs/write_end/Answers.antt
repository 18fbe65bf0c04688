-- `played::write_end` meets its contract.
use mathlib.Core.Path.{◌∙◌, sym, ap}
use mathlib.Core.List.{◌++◌}
use Prim.Native.Nat.{ℕ}
use lib.ListN.{drop}
use Rattle.model.specs.Lent.{bytes}
use Rattle.model.proofs.Lent.{length_bytes}
use Rattle.refusal.proofs.Chain.{fitting_room, fitting_short}
use Rattle.held.specs.Held.{held_in}
use Rattle.played.proofs.write_end.Goals as goal

pub returns-then-end-count : goal.returns-then-end-count
returns-then-end-count c =
    record {
      answer = c.refused.ensures ∙ sym (fitting_short _ _ c.if-end-count.true);
      after = rw c.refused.ensures;
    }

pub returns : goal.returns
returns c =
    let given = c.args in record {
      answer = sym (fitting_room _ _ c.if-end-count.false);
      after = c.spread.ensures ∙ ap (λ (k : ℕ). bytes given.count (held_in given.held) ++ drop k given.end.now) (sym (length_bytes given.count (held_in given.held)));
    }
