-- A part of a slice as the code makes it, and where it lies.
use Prim.Native.Nat.{ℕ, ◌+◌, ◌-◌, ◌≤◌, ◌<◌}
use native.Mathlib.Nat.{add-sub_cancel_left}
use native.Mathlib.Omega.{arith}
use mathlib.Core.Path.{◌≡◌, sym, ◌∙◌}
use mathlib.Core.List.{List, []}
use lib.ListN.{length, take, drop, length-drop, drop_of_length-le}
use lib.Seq.{take-nil, take_all}
use borrow.Author.Tests.{le-leb, lt-leb}
use Rattle.records.specs.Records.{part}
use Rattle.records.specs.Parts.{place_in}

pub part_none : (s : List ℕ) (a k : ℕ) → length s ≤ a → part s a k ≡ []
part_none s a k h = rw (drop_of_length-le s h) (take-nil k)

pub part_in : (s : List ℕ) (a k : ℕ) → take (a + k - a) (drop a s) ≡ part s a k
part_in s a k = rw (add-sub_cancel_left a k)

pub part_rest : (s : List ℕ) (a k : ℕ) → length s - a ≤ k → take (length s - a) (drop a s) ≡ part s a k
part_rest s a k h =
    take_all (length s - a) (drop a s) (rw length-drop (omega arith))
    ∙ sym (take_all k (drop a s) (rw length-drop h))

pub place_in_lem : (s : List ℕ) (a : ℕ) → a ≤ length s → a ≡ place_in s a
place_in_lem s a h = simp (le-leb a (length s) h)

pub place_out : (s : List ℕ) (a : ℕ) → length s < a → 0 ≡ place_in s a
place_out s a h = simp (lt-leb a (length s) h)
