-- What a later occurrence of an event picks: the later slots tell a marker of each condition, and the one that the rule picks.
use Prim.Native.Nat.{ℕ, ◌<◌}
use native.Mathlib.Omega.{arith}
use mathlib.Core.Path.{◌≡◌, refl, sym, ap, ◌∙◌, subst}
use mathlib.Core.Bool.{Bool, true, false, cond}
use mathlib.Core.Option.{Option, some}
use mathlib.Core.List.Memᴰ
use mathlib.Core.List.{List, [], ◌∷◌}
use lib.Dec.{T}
use Rattle.lists.specs.Lists.{mem, count, ◌∈◌}
use Rattle.lists.proofs.Bools.{T_of}
use Rattle.lists.proofs.Members.{keep_out, count_out}
use Rattle.lists.proofs.Distinct.{Distinct}
use Rattle.model.specs.Net.{Net}
use Rattle.model.specs.Runs.{Marker, by_event}
use Rattle.model.specs.Unfolding.{markers, users}
use Rattle.model.specs.Across.{or_start}
use Rattle.model.proofs.Unfolded.{event_marks}
use Rattle.model.proofs.Counts.{distinct_users}
use Rattle.firsts.specs.Firsts.{Slot, first_at}
use Rattle.later.specs.Later.{own_or, Later}
use Rattle.places.specs.Places.{Marking}

user_event : (n : Net) (b u : ℕ) → u ∈ users n b → u < n.events
unfolding users
user_event n b u i = omega (arith, (count_out u 0 n.events (keep_out (λ e. mem b (n.preconditions e)) (count 0 n.events) i).0).1)

module _ (n : Net) (slots later : List Slot) (l : Later n slots later) where
  -- what they tell is a marker, for a condition's only user is one where it marks it
  pub later_marking : Marking n slots → Marking n later
  later_marking m b h p = subst (λ (o : Option Marker). or_start o ∈ markers n b) (sym (l.each b h p)) (go (users n b) (user_event n b))
    where
      own : (u : ℕ) → u < n.events → (t : Bool) → mem b (n.postconditions u) ≡ t → or_start (cond t (some (by_event u)) (first_at slots b)) ∈ markers n b
      own u k true q = event_marks n b u k (T_of (mem b (n.postconditions u)) q)
      own u k false q = m b h p

      go : (us : List ℕ) → ((u : ℕ) → u ∈ us → u < n.events) → or_start (own_or n b us (first_at slots b)) ∈ markers n b
      go [] f = m b h p
      go (u ∷ []) f = own u (f u (Memᴰ.head refl)) (mem b (n.postconditions u)) refl
      go (u ∷ v ∷ us) f = m b h p

  -- a user that marks a condition for nobody else picks itself, and one that does not mark it picks the first marker
  pub later_pick : (e b : ℕ) → b < 256 → n.persistent b ≡ true → e ∈ users n b → (T (mem b (n.postconditions e)) → (v : ℕ) → v ∈ users n b → v ≡ e)
      → or_start (first_at later b) ≡ cond (mem b (n.postconditions e)) (by_event e) (or_start (first_at slots b))
  later_pick e b h p i alone = ap or_start (l.each b h p) ∙ go (users n b) i alone (distinct_users n b)
    where
      out : (t : Bool) (first : Option Marker) → or_start (cond t (some (by_event e)) first) ≡ cond t (by_event e) (or_start first)
      out true first = refl
      out false first = refl

      -- one of several users does not mark the condition
      many : (u v : ℕ) (us : List ℕ) → Distinct (u ∷ v ∷ us) → (t : Bool) → (T t → (x : ℕ) → x ∈ u ∷ v ∷ us → x ≡ e)
          → or_start (first_at slots b) ≡ cond t (by_event e) (or_start (first_at slots b))
      many u v us d true f =
          absurd (let z : 0 ≡ 1 = d e 0 1 (ap some (f tt u (Memᴰ.head refl))) (ap some (f tt v (Memᴰ.tail (Memᴰ.head refl)))) in omega arith)
      many u v us d false f = refl

      go : (us : List ℕ) → e ∈ us → (T (mem b (n.postconditions e)) → (v : ℕ) → v ∈ us → v ≡ e) → Distinct us
          → or_start (own_or n b us (first_at slots b)) ≡ cond (mem b (n.postconditions e)) (by_event e) (or_start (first_at slots b))
      go [] j f d = absurd (Memᴰ.not-nil j)
      go (u ∷ []) j f d = rw (sym (Memᴰ.eq_of_singleton j)) (out (mem b (n.postconditions e)) (first_at slots b))
      go (u ∷ v ∷ us) j f d = many u v us d (mem b (n.postconditions e)) f
