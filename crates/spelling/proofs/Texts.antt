-- Texts put at a place of lent bytes, one after the other, and a whole one as the answer.
use Prim.Native.Nat.{ℕ, ◌+◌, ◌≤◌, ◌<◌}
use native.Mathlib.Omega.{arith}
use mathlib.Core.Path.{◌≡◌, refl, sym, ◌∙◌, ap, subst}
use mathlib.Core.List.{List, [], ◌∷◌, ◌++◌}
use lib.ListN.{length, length-append, get_or, drop, set}
use lib.Seq.{sets, length-sets, set_out}
use Rattle.lists.proofs.Stored.{stored_whole, store_next, store_end, store_both}
use Rattle.spelling.specs.Puts.{Put, Puts}

pub byte_out : (out : List ℕ) (at b : ℕ) → length out ≤ at → Put out at (b ∷ []) (at + 1) out
byte_out out at b h = record { told = refl; stored = sym (set_out out at b h) }

-- Nothing is put.
pub nothing_put : (out : List ℕ) (at : ℕ) → Put out at [] at out
nothing_put out at = record { told = omega arith; stored = refl }

-- Two texts are put, one where the other ends.
pub both : {out : List ℕ} {at : ℕ} {x : List ℕ} {r : ℕ} {mid y : List ℕ} {r' : ℕ} {after : List ℕ} → Put out at x r mid → Put mid r y r' after → Put out at (x ++ y) r' after
both {out} {at} {x} {r} {mid} {y} p q =
    record {
      told = rw length-append (omega (arith, p.told, q.told));
      stored = q.stored ∙ rw (p.stored, p.told, store_both x y out at);
    }

-- Equal texts are put alike.
pub same_text : {out : List ℕ} {at : ℕ} {x y : List ℕ} {r : ℕ} {after : List ℕ} → x ≡ y → Put out at x r after → Put out at y r after
same_text {out} {at} {x} {y} {r} {after} e p = subst (λ (t : List ℕ). Put out at t r after) e p

-- The output is as long as before.
pub put_long : {out : List ℕ} {at : ℕ} {x : List ℕ} {r : ℕ} {after : List ℕ} → Put out at x r after → length after ≡ length out
put_long {out} {at} {x} p = ap length p.stored ∙ length-sets out at x

-- A text that fits, put at the first byte, is the answer with everything past it as it was.
pub put_whole : {out x : List ℕ} {r : ℕ} {after : List ℕ} → Put out 0 x r after → length x ≤ length out → after ≡ x ++ drop (length x) out
put_whole {out} {x} p h = p.stored ∙ stored_whole x out h

-- Storing a text from its byte k on is storing that byte and then the text after it, and nothing is left past the last.
pub next_byte : (text out : List ℕ) (at k : ℕ) → k < length text → sets out (at + k) (drop k text) ≡ sets (set out (at + k) (get_or text k 0)) (at + (k + 1)) (drop (k + 1) text)
next_byte text out at k h =
    let e : at + (k + 1) ≡ at + k + 1 = omega arith in
    rw e (store_next out text (at + k) k 0 h)

pub no_byte : (text out : List ℕ) (at k : ℕ) → length text ≤ k → sets out (at + k) (drop k text) ≡ out
no_byte text out at k h = store_end out text (at + k) k h

-- What is left to put after a text is left of both, so that the place and the bytes come out the same.
pub goes_on : {out : List ℕ} {at : ℕ} {x : List ℕ} {r : ℕ} {mid : List ℕ} (y : List ℕ) → Put out at x r mid → (r + length y ≡ at + length (x ++ y)) × (sets mid r y ≡ sets out at (x ++ y))
goes_on {out} {at} {x} {r} {mid} y p =
    (rw length-append (omega (arith, p.told)), rw (p.stored, p.told, store_both x y out at))

-- A text that is the first bytes of an output is no longer than it.
pub put_within : {x out : List ℕ} {count : ℕ} {after : List ℕ} → Puts x out count after → count ≤ length after
put_within {x} {out} p = omega (arith, p.told, ap length p.stored, length-append x (drop (length x) out))
