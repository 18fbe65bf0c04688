-- `parts::pre_part` meets its contract.
use Rattle.table.specs.Decoded.{net_of}
use mathlib.Core.Path.{◌∙◌, sym, ap, refl}
use native.Mathlib.Omega.{arith}
use Prim.Native.Nat.{ℕ, ◌+◌}
use Rattle.words.specs.Words.{words}
use Rattle.records.specs.Records.{pre_part}
use Rattle.parts.specs.Asked.{pre_part_of, pre_place_of}
use Rattle.parts.proofs.Asking.{list_pre, list_none}
use Rattle.parts.proofs.Shown.{shown_none, place_none, shown_at_lem, place_at, asked_room}
use Rattle.parts.proofs.pre_part.Goals as goal

pub returns-in_default : goal.returns-in_default
unfolding pre_part_of pre_place_of
returns-in_default c =
    let t = c.in_default.is in
    let s = c.args.table.now in
    let none = place_none c.asked-r.ensures t (λ (x : ℕ). x + 8) in
    record {
      shown = record { reads = shown_none c.asked-r.ensures t (pre_part s); within = refl; begins = omega arith };
      read = list_none s _ _ (net_of s).preconditions (sym c.asked-r.ensures ∙ t);
    }

pub returns : goal.returns
unfolding pre_part_of pre_place_of
returns c =
    let s = c.args.table.now in
    let found = sym c.asked-r.ensures ∙ c.in-Ok.is in
    let room = asked_room s _ _ found in
    let p = c.pre_at.ensures in
    let at = place_at c.asked-r.ensures c.in-Ok.is s (λ (x : ℕ). x + 8) (omega arith) in record {
      shown = record { reads = p.reads ∙ shown_at_lem c.asked-r.ensures c.in-Ok.is (pre_part s); within = p.within; begins = omega arith };
      read = ap words p.reads ∙ list_pre s _ _ found;
    }
