-- An unfolded marking written where there is room.
use Prim.Native.Nat.{ℕ, ◌≤◌, ◌<◌}
use native.Mathlib.Omega.{arith}
use mathlib.Core.Path.{◌≡◌, refl, sym, ap, ◌∙◌}
use mathlib.Core.Bool.{Bool}
use mathlib.Core.List.{List, ◌++◌}
use lib.ListN.{length, drop}
use Rattle.model.specs.Net.{Net, Marking, begin}
use Rattle.model.specs.Lent.{bytes, marking}
use Rattle.model.specs.Unfolding.{basic}
use Rattle.model.proofs.Lent.{length_bytes}
use Rattle.refusal.specs.Answer.{Judged, refused_at, fitting, written}
use Rattle.std.specs.Prelude.{Ok}
use Rattle.refusal.proofs.Chain.{fitting_room, fitting_short}
use Rattle.table.specs.Decoded.{net_of}
use Rattle.held.specs.Held.{tabled}
use Rattle.held.proofs.Words.{tabled_marking}
use Rattle.copies.specs.Copies.{copies_of}
use Rattle.copies.specs.Writing.{Prepared}
use Rattle.copies.proofs.Ends.{copies_length}
use Rattle.ends.specs.Shown.{Shown}

-- what the writer needs
pub prepared : (s : List ℕ) (events : ℕ) (users bases state : List ℕ) → Shown s events users bases state → (begun : Marking) → begun ≡ begin (net_of s)
    → (room : ℕ) → (basic (net_of s)).conditions ≤ room → Prepared s users bases begun room
prepared s events users bases state h begun e room fits =
    record { roomy = record { markers = h.markers; laid = h.laid; fits = fits }; started = e }

-- all that 256 bytes say is gathered
pub gathered : (state : List ℕ) → state ≡ bytes 256 (marking state) → tabled (marking state) ≡ marking state
gathered state e = tabled_marking state (omega (arith, ap length e ∙ length_bytes 256 (marking state)))

-- no room: nothing is written
pub short : (r : Judged) (count needed : ℕ) (copies out : List ℕ) → r ≡ refused_at 16 count → count ≡ needed → length out < count
    → (r ≡ fitting needed (length out)) × (out ≡ written r copies out)
short r count needed copies out e same h = (e ∙ sym (fitting_short count (length out) h) ∙ ap (λ (x : ℕ). fitting x (length out)) same, rw e refl)

-- room: what the writer left is what a fine answer leaves
pub roomy : (n : Net) (m held : Marking) → held ≡ m → (seen : ℕ → Bool) (count : ℕ) (out after : List ℕ) → count ≡ (basic n).conditions → count ≤ length out
    → after ≡ copies_of n held seen ++ drop (basic n).conditions out → (Ok count ≡ fitting (basic n).conditions (length out)) × (after ≡ copies_of n m seen ++ drop (length (copies_of n m seen)) out)
roomy n m held is seen count out after same h e = (
  sym (fitting_room count (length out) h) ∙ ap (λ (x : ℕ). fitting x (length out)) same,
  e ∙ ap (λ (x : Marking). copies_of n x seen ++ drop (basic n).conditions out) is ∙ ap (λ (k : ℕ). copies_of n m seen ++ drop k out) (sym (copies_length n m seen)),
)
