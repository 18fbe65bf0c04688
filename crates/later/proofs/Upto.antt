-- The walk over the events: after the first k of them each persistent condition whose only user is one of these, and marks it, has that
-- user.
use Prim.Native.Nat.{ℕ, ◌+◌, ◌≤◌, ◌<◌}
use native.Mathlib.Omega.{arith}
use native.Mathlib.Decide.{ℕ_discrete, dec_le}
use mathlib.Core.Path.{◌≡◌, refl, sym, ◌∙◌}
use mathlib.Core.Bool.{true, false, ◌&&◌, ◌||◌, cond}
use mathlib.Core.Option.{Option, some}
use mathlib.Core.List.Memᴰ
use mathlib.Core.List.{List, [], ◌∷◌}
use lib.Dec.{eqb, ltb}
use lib.ListN.{length}
use borrow.Author.Tests.{eq-eqb, ne_eqb, lt-ltb, le-ltb}
use Rattle.lists.specs.Lists.{mem, count, ◌∈◌}
use Rattle.lists.proofs.Members.{keep_out, count_out}
use Rattle.words.specs.Words.{words}
use Rattle.model.specs.Net.{Net}
use Rattle.model.specs.Runs.{Marker, by_event}
use Rattle.model.specs.Unfolding.{users}
use Rattle.table.specs.Walk.{offset_of}
use Rattle.table.specs.Decoded.{net_of}
use Rattle.tally.specs.Having.{list_part}
use Rattle.tally.proofs.Events.{list_read, list_inside}
use Rattle.repeats.specs.Repeats.{Used}
use Rattle.repeats.proofs.Others.{user_if}
use Rattle.repeats.proofs.Walk.{uses_at}
use Rattle.firsts.specs.Firsts.{Slot, Inside, first_at}
use Rattle.later.specs.Later.{own_or, Later}
use Rattle.later.specs.Own.{only_at, own_all}
use Rattle.later.proofs.Owning.{own_length, own_first}

-- ---- the users of one condition

module _ (n : Net) (b : ℕ) (first : Option Marker) where
  -- its only user where that is one of the first k events and marks it, and else the marker that is given
  abbrev pub own_upto : ℕ → List ℕ → Option Marker
  own_upto k [] = first
  own_upto k (u ∷ []) = cond (ltb u k && mem b (n.postconditions u)) (some (by_event u)) first
  own_upto k (u ∷ v ∷ l) = first

  upto_none : (us : List ℕ) → first ≡ own_upto 0 us
  upto_none [] = refl
  upto_none (u ∷ []) = rw (le-ltb u 0 (omega arith))
  upto_none (u ∷ v ∷ l) = refl

  upto_next : (k : ℕ) (us : List ℕ) → cond ((eqb (length us) 1 && mem k us) && mem b (n.postconditions k)) (some (by_event k)) (own_upto k us) ≡ own_upto (k + 1) us
  upto_next k [] = refl
  upto_next k (u ∷ []) = go (ℕ_discrete k u)
    where
      below : (k ≡ u → ⊥) → ltb u k ≡ ltb u (k + 1)
      below z = split (dec_le k u)
        where
          split : Dec (k ≤ u) → ltb u k ≡ ltb u (k + 1)
          split (yes h) = le-ltb u k h ∙ sym (le-ltb u (k + 1) (omega (arith, z)))
          split (no h) = lt-ltb u k (omega arith) ∙ sym (lt-ltb u (k + 1) (omega arith))

      go : Dec (k ≡ u) → cond ((eqb k u || false) && mem b (n.postconditions k)) (some (by_event k)) (own_upto k (u ∷ [])) ≡ own_upto (k + 1) (u ∷ [])
      go (yes z) = rw (z, eq-eqb u u refl, le-ltb u u (omega arith), lt-ltb u (u + 1) (omega arith))
      go (no z) = rw (ne_eqb k u z, below z)
  upto_next k (u ∷ v ∷ l) = rw (ne_eqb (length (u ∷ v ∷ l)) 1 (omega arith))

  upto_all : (k : ℕ) (us : List ℕ) → ((u : ℕ) → u ∈ us → u < k) → own_upto k us ≡ own_or n b us first
  upto_all k [] f = refl
  upto_all k (u ∷ []) f = rw (lt-ltb u k (f u (Memᴰ.head refl)))
  upto_all k (u ∷ v ∷ l) f = refl

-- ---- all conditions

-- the first k events have been looked at
pub record Upto (n : Net) (k : ℕ) (slots later : List Slot) : Type 0 where
  pub size : length later ≡ 256
  pub each : (b : ℕ) → b < 256 → n.persistent b ≡ true → first_at later b ≡ own_upto n b (first_at slots b) k (users n b)

pub own_none : (n : Net) (slots : List Slot) → length slots ≡ 256 → Upto n 0 slots slots
own_none n slots z = record { size = z; each = λ b h p. upto_none n b (first_at slots b) (users n b) }

pub own_done : (n : Net) (k : ℕ) (slots later : List Slot) → k ≡ n.events → Upto n k slots later → Later n slots later
unfolding users
own_done n k slots later q u =
    record {
      size = u.size;
      each = λ b h p.
          u.each b h p
          ∙ upto_all n b (first_at slots b) k (users n b)
          (λ x i. let r = count_out x 0 n.events (keep_out (λ e. mem b (n.preconditions e)) (count 0 n.events) i).0 in omega arith);
    }

-- a walk over the events that is at event e
module _ (s us : List ℕ) (c : Used s us) (e : ℕ) (h : e < (net_of s).events) (at : ℕ) (q : at ≡ offset_of s e) where
  pub post_inside : (post : List ℕ) → post ≡ list_part true s at → Inside (words post)
  post_inside post p b t = list_inside s e h true b (rw (p, q, list_read s e h true) at t)

  -- the test by the numbers of users is the one by the users
  only_read : (b : ℕ) → b < 256 → (net_of s).persistent b ≡ true → only_at s us ((net_of s).preconditions e) b ≡ (eqb (length (users (net_of s) b)) 1 && mem e (users (net_of s) b))
  only_read b l p = rw (c.flags b, p, uses_at s us c b l, user_if (net_of s) b e h)

  pub own_event : (pre : List ℕ) → pre ≡ list_part false s at → (post : List ℕ) → post ≡ list_part true s at → (slots later next : List Slot)
      → Upto (net_of s) e slots later → next ≡ own_all s us (words pre) e later (words post) → Upto (net_of s) (e + 1) slots next
  own_event pre y post z slots later next u w =
      rw (w, y, z, q, list_read s e h false, list_read s e h true)
      (record {
        size = own_length s us ((net_of s).preconditions e) e later ((net_of s).postconditions e) ∙ u.size;
        each = λ b l p.
            own_first s us ((net_of s).preconditions e) e later ((net_of s).postconditions e) b (omega (arith, u.size))
            ∙ rw (only_read b l p, u.each b l p) (upto_next (net_of s) b (first_at slots b) e (users (net_of s) b));
      })
