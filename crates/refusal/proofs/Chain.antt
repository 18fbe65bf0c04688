-- The laws of a chain of tests: how a `let .. else` follows it, what a fine answer tells of each link, and where it stands.
use Prim.Native.Nat.{ℕ, ◌≤◌, ◌<◌}
use native.Mathlib.Omega.{arith}
use mathlib.Core.Path.{◌≡◌, refl, sym, ◌∙◌}
use mathlib.Core.Bool.{Bool, true, false}
use mathlib.Core.List.{List}
use lib.Dec.{leb}
use lib.ListN.{length, take, drop}
use lib.Seq.{take-append_seam}
use borrow.Author.Tests.{le-leb, lt-leb, leb-true}
use Rattle.refusal.specs.declared.Refusal.{Refusal}
use Rattle.refusal.specs.Answer.{Judged, refused_at, need, and_then, fitting, written}
use Rattle.std.specs.Prelude.{Result, Ok, Err}

-- An answer r that is refused is passed up as it is.
pub passed_up : {x r : Judged} {refusal : Refusal} (f : ℕ → Judged) → r ≡ x → r ≡ Err refusal → r ≡ and_then x f
passed_up f e t = t ∙ simp (sym e ∙ t)

-- An answer r that is fine is gone on with.
pub goes_on : {x r : Judged} {n : ℕ} (f : ℕ → Judged) → r ≡ x → r ≡ Ok n → and_then x f ≡ f n
goes_on f e t = simp (sym e ∙ t)

-- No answer is both fine and refused.
pub never_both : {A B : Type 0} {x : B} {refusal : Refusal} → Ok x ≡ Err refusal → A
never_both e = let z : ◌≡◌ {A = ℕ} 0 1 = cc in absurd (omega arith)

-- Two fine answers that are the same have the same value.
pub ok_is : {B : Type 0} {x y : B} → ◌≡◌ {A = Result B Refusal} (Ok x) (Ok y) → x ≡ y
ok_is e = cc

-- A test that holds is passed; one that fails is refused.
pub need_passes : {b : Bool} (number place : ℕ) {rest : Judged} → b ≡ true → need b number place rest ≡ rest
unfolding need
need_passes number place h = rw h

pub need_refuses : {b : Bool} (number place : ℕ) (rest : Judged) → b ≡ false → need b number place rest ≡ refused_at number place
unfolding need
need_refuses number place rest h = rw h

-- A fine answer passed its first test, and the rest is fine.
pub need_fine : (b : Bool) (number place n : ℕ) (rest : Judged) → need b number place rest ≡ Ok n → (b ≡ true) × (rest ≡ Ok n)
unfolding need
need_fine true number place n rest e = (refl, e)
need_fine false number place n rest e = never_both (sym e)

-- A fine answer had a fine first answer, and what followed is fine.
pub then_fine : (x : Judged) (f : ℕ → Judged) (n : ℕ) → and_then x f ≡ Ok n → (m : ℕ) × (x ≡ Ok m) × (f m ≡ Ok n)
then_fine (Ok m) f n e = (m, refl, e)
then_fine (Err refusal) f n e = never_both (sym e)

-- ---- room for an answer

pub fitting_room : (needed room : ℕ) → needed ≤ room → fitting needed room ≡ Ok needed
unfolding fitting
fitting_room needed room h = need_passes 16 needed (le-leb needed room h)

pub fitting_short : (needed room : ℕ) → room < needed → fitting needed room ≡ refused_at 16 needed
unfolding fitting
fitting_short needed room h = need_refuses 16 needed (Ok needed) (lt-leb needed room h)

pub fitting_fine : (needed room c : ℕ) → fitting needed room ≡ Ok c → (c ≡ needed) × (needed ≤ room)
unfolding fitting
fitting_fine needed room c e =
    let x = need_fine (leb needed room) 16 needed c (Ok needed) e in
    (cc, leb-true needed room x.0)

-- What was written stands at the front.
pub written_front : (answer : Judged) (c : ℕ) (w out : List ℕ) → answer ≡ Ok c → take (length w) (written answer w out) ≡ w
written_front answer c w out e = rw e (take-append_seam w (drop (length w) out))

-- A refusal writes nothing.
pub written_refused : (answer : Judged) (refusal : Refusal) (w out : List ℕ) → answer ≡ Err refusal → out ≡ written answer w out
written_refused answer refusal w out e = rw e
