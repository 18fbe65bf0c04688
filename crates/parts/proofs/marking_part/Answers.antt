-- `parts::marking_part` meets its contract.
use mathlib.Core.Path.{◌∙◌, sym, ap, refl}
use native.Mathlib.Omega.{arith}
use Prim.Native.Nat.{ℕ, ◌+◌}
use Rattle.words.specs.Words.{words}
use Rattle.records.specs.Records.{marking_part}
use Rattle.records.specs.Parts.{place_in}
use Rattle.parts.specs.Asked.{marking_part_of, marking_place_of}
use Rattle.table.proofs.Walk.{accepted}
use Rattle.table.proofs.Decoded.{start_none, start_read}
use Rattle.parts.proofs.Shown.{shown_none, place_none, shown_at_lem, place_at, marking_room, marking_asked, marking_refused}
use Rattle.parts.proofs.marking_part.Goals as goal

pub returns-in_default : goal.returns-in_default
unfolding marking_part_of marking_place_of
returns-in_default c =
    let s = c.args.table.now in
    let j = sym c.judge-r.ensures ∙ c.in_default.is in
    let x = marking_refused s _ j in
    let none = place_none x refl (λ (x : ℕ). x + 4) in
    record {
      shown = record { reads = shown_none x refl (marking_part s); within = refl; begins = omega arith };
      read = start_none s _ j;
    }

pub overflow_cast-n : goal.overflow_cast-n
overflow_cast-n c =
    let a = accepted _ _ (sym c.judge-r.ensures ∙ c.in-Ok.is) in
    omega arith

pub returns : goal.returns
unfolding marking_part_of marking_place_of
returns c =
    let s = c.args.table.now in
    let j = sym c.judge-r.ensures ∙ c.in-Ok.is in
    let x = marking_asked s _ j in
    let p = c.marking_at.ensures in
    let o = c.offset.ensures in
    let room = marking_room s _ j in
    let at = place_at x refl s (λ (x : ℕ). x + 4) room in
    let moved = ap (λ (x : ℕ). place_in s (x + 4)) o in
    let reads = p.reads ∙ ap (marking_part s) o in
    record {
      shown = record { reads = reads ∙ shown_at_lem x refl (marking_part s); within = p.within; begins = omega arith };
      read = ap words reads ∙ start_read s _ j;
    }
