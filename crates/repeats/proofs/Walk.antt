-- The walk over the events: what the table's numbers tell of an event is what the net says, and a byte is written for each.
use Prim.Native.Nat.{ℕ, ◌+◌, ◌<◌}
use native.Mathlib.Omega.{arith}
use native.Mathlib.Decide.{ℕ_discrete}
use mathlib.Core.Path.{◌≡◌, refl, ◌∙◌, ap₂}
use mathlib.Core.Bool.{Bool, true, false, not, ◌&&◌, ◌||◌}
use mathlib.Core.List.{List, [], ◌∷◌}
use lib.Dec.{T, eqb, eqb_refl}
use lib.ListN.{length, get_or, set, length-set}
use lib.Seq.{get_or-set_same, get_or-set_other}
use Rattle.lists.specs.Lists.{mem, any}
use Rattle.lists.proofs.Bools.{or_left, or_right}
use Rattle.words.specs.Words.{words}
use Rattle.model.specs.Net.{Net}
use Rattle.model.specs.Unfolding.{users}
use Rattle.model.specs.Across.{marks_for_others}
use Rattle.table.specs.Walk.{offset_of}
use Rattle.table.specs.Decoded.{net_of}
use Rattle.tally.specs.Having.{list_part}
use Rattle.tally.proofs.Events.{list_read, list_inside}
use Rattle.repeats.specs.Repeats.{Used, others_at}
use Rattle.repeats.proofs.Others.{others_counted}

-- ---- what an event marks

module _ (s us : List ℕ) (u : Used s us) where
  pub uses_at : (b : ℕ) → b < 256 → get_or us b 0 ≡ length (users (net_of s) b)
  unfolding users
  uses_at b h = u.uses.at b h ∙ omega arith

  module _ (e : ℕ) (h : e < (net_of s).events) where
    others_read : (b : ℕ) → b < 256 → others_at s us ((net_of s).preconditions e) b ≡ ((net_of s).persistent b && any (λ u. not (eqb u e)) (users (net_of s) b))
    others_read b l = rw (u.flags b, uses_at b l, others_counted (net_of s) b e h)

    marks_read : (l : List ℕ) → ((b : ℕ) → T (mem b l) → b < 256) → any (others_at s us ((net_of s).preconditions e)) l
        ≡ any (λ b. (net_of s).persistent b && any (λ u. not (eqb u e)) (users (net_of s) b)) l
    marks_read [] f = refl
    marks_read (b ∷ l) f =
        ap₂ {C = Bool} (λ x y. x || y) (others_read b (f b (or_left (eqb b b) (mem b l) (eqb_refl b)))) (marks_read l (λ x t. f x (or_right (eqb x b) (mem x l) t)))

    -- a walk over the events that is at event e
    pub marks_walk : (at : ℕ) (q : at ≡ offset_of s e) (pre : List ℕ) (p : pre ≡ list_part false s at) (post : List ℕ) {r : Bool} → post ≡ list_part true s at
        → r ≡ any (others_at s us (words pre)) (words post) → r ≡ marks_for_others (net_of s) e
    unfolding marks_for_others
    marks_walk at q pre p post z t =
        t ∙ rw (p, z, q, list_read s e h false, list_read s e h true) (marks_read ((net_of s).postconditions e) (λ b t. list_inside s e h true b t))

-- ---- the bytes

-- those of the first k events are written
pub record Upto (n : Net) (k : ℕ) (once : List ℕ) : Type 0 where
  pub size : length once ≡ 256
  pub each : (e : ℕ) → e < k → eqb (get_or once e 0) 1 ≡ marks_for_others n e

pub upto_next : (n : Net) (k : ℕ) (once : List ℕ) → Upto n k once → k < 256 → (v : ℕ) → eqb v 1 ≡ marks_for_others n k → Upto n (k + 1) (set once k v)
upto_next n k once u l v m = record { size = length-set once k v ∙ u.size; each = λ e h. go e h (ℕ_discrete e k) }
  where
    go : (e : ℕ) → e < k + 1 → Dec (e ≡ k) → eqb (get_or (set once k v) e 0) 1 ≡ marks_for_others n e
    go e h (yes z) = rw (z, get_or-set_same once k v 0 (omega (arith, u.size))) m
    go e h (no z) = rw (get_or-set_other once k e v 0 z) (u.each e (omega (arith, z)))
