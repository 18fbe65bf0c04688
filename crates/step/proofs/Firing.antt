-- A step on bytes is the model's: what the bytes set in turn come to.
use Prim.Native.Nat.{ℕ, ◌<◌}
use native.Mathlib.Omega.{arith}
use mathlib.Core.Path.{◌≡◌, refl, sym, ap, ◌∙◌}
use mathlib.Core.Bool.{Bool, true, false, not, ◌&&◌, ◌||◌, cond}
use mathlib.Core.Option.{Option, none, some}
use mathlib.Core.List.{List, [], ◌∷◌}
use lib.Dec.{eqb}
use lib.ListN.{length, get_or, set, replicate, length-set, length-replicate, get_or-replicate}
use lib.Seq.{get_or-set_same, get_or-set_other}
use borrow.Author.Tests.{eqb-true, eqb-false}
use Rattle.lists.specs.Lists.{mem}
use Rattle.model.specs.Net.{fire, Stop, stopping}
use Rattle.words.specs.Words.{words}
use Rattle.records.specs.Records.{flags, pre_part, post_part}
use Rattle.stopping.specs.Table.{Step, Cause, step_of}
use Rattle.std.specs.Prelude.{Err}
use Rattle.stopping.specs.Causes.{goes}
use Rattle.model.specs.Lent.{bit, bytes, marking}
use Rattle.step.specs.Lent.{Lent}
use Rattle.step.specs.Steps.{set_one, set_all, lists_net, record_net, stepped}
use Rattle.model.proofs.Lent.{bytes_are}
use Rattle.step.proofs.Bytes.{lent_at}

-- ---- bytes set in turn, seen at one condition

length_one : (kept : List ℕ) (v b : ℕ) (l : List ℕ) → length (set_one kept v b l) ≡ length l
length_one kept v b l = go (eqb (get_or kept b 0) 1)
  where
    go : (k : Bool) → length (cond k l (set l b v)) ≡ length l
    go true = refl
    go false = length-set l b v

pub length_all : (kept : List ℕ) (v : ℕ) (bs l : List ℕ) → length (set_all kept v bs l) ≡ length l
unfolding set_all
length_all kept v [] l = refl
length_all kept v (b ∷ bs) l = length_all kept v bs (set_one kept v b l) ∙ length_one kept v b l

one_at : (kept : List ℕ) (v b : ℕ) (l : List ℕ) (i : ℕ) → i < length l
    → get_or (set_one kept v b l) i 0 ≡ cond (eqb i b && not (eqb (get_or kept i 0) 1)) v (get_or l i 0)
one_at kept v b l i h = go (eqb i b) refl
  where
    same : (k : Bool) → get_or (cond k l (set l i v)) i 0 ≡ cond (not k) v (get_or l i 0)
    same true = refl
    same false = get_or-set_same l i v 0 h

    other : (i ≡ b → ⊥) → (k : Bool) → get_or (cond k l (set l b v)) i 0 ≡ get_or l i 0
    other n true = refl
    other n false = get_or-set_other l b i v 0 n

    go : (t : Bool) → eqb i b ≡ t → get_or (set_one kept v b l) i 0 ≡ cond (t && not (eqb (get_or kept i 0) 1)) v (get_or l i 0)
    go true e = let q : i ≡ b = eqb-true i b e in rw (← q) (same (eqb (get_or kept i 0) 1))
    go false e = other (eqb-false i b e) (eqb (get_or kept b 0) 1)

pub all_at : (kept : List ℕ) (v : ℕ) (bs l : List ℕ) (i : ℕ) → i < length l
    → get_or (set_all kept v bs l) i 0 ≡ cond (mem i bs && not (eqb (get_or kept i 0) 1)) v (get_or l i 0)
unfolding set_all
all_at kept v [] l i h = refl
all_at kept v (b ∷ bs) l i h =
    all_at kept v bs (set_one kept v b l) i (rw length_one h)
    ∙ ap (cond (mem i bs && not (eqb (get_or kept i 0) 1)) v) (one_at kept v b l i h)
    ∙ either (eqb i b) (mem i bs) (not (eqb (get_or kept i 0) 1))
  where
    either : (a c n : Bool) → cond (c && n) v (cond (a && n) v (get_or l i 0)) ≡ cond ((a || c) && n) v (get_or l i 0)
    either true true true = refl
    either true true false = refl
    either true false true = refl
    either true false false = refl
    either false c true = refl
    either false c false = refl

-- ---- conditions marked in bytes that were all 0

pub put_all : (bs : List ℕ) (c : ℕ) → set_all [] 1 bs (replicate c 0) ≡ bytes c (λ b. mem b bs)
put_all bs c =
    bytes_are _ c _ (length_all [] 1 bs (replicate c 0) ∙ length-replicate {A = ℕ} c 0) (λ i h.
    all_at [] 1 bs (replicate c 0) i (rw length-replicate h)
    ∙ ap (cond (mem i bs && true) 1) (get_or-replicate {A = ℕ} c i 0 0 h) ∙ one (mem i bs))
  where
    one : (t : Bool) → cond (t && true) 1 0 ≡ bit t
    one true = refl
    one false = refl

-- ---- the firing

fired_at : (z a k m : Bool) → cond (z && true) 1 (cond (a && not k) 0 (bit m)) ≡ bit (z || m && (k || not a))
fired_at true a k m = refl
fired_at false true true true = refl
fired_at false true true false = refl
fired_at false true false true = refl
fired_at false true false false = refl
fired_at false false true true = refl
fired_at false false true false = refl
fired_at false false false true = refl
fired_at false false false false = refl

fired : (s l : List ℕ) (at : ℕ) → Lent l
    → set_all [] 1 (words (post_part s at)) (set_all (flags s) 0 (words (pre_part s at)) l) ≡ bytes (length l) (fire (record_net s at) (marking l) 0)
unfolding fire record_net lists_net
fired s l at lent =
    let taken = set_all (flags s) 0 (words (pre_part s at)) l in
    bytes_are _ (length l) _ (length_all [] 1 (words (post_part s at)) taken ∙ length_all (flags s) 0 (words (pre_part s at)) l)
    (λ i h.
    all_at [] 1 (words (post_part s at)) taken i (rw length_all h)
    ∙ ap (cond (mem i (words (post_part s at)) && true) 1) (all_at (flags s) 0 (words (pre_part s at)) l i h
    ∙ ap (cond (mem i (words (pre_part s at)) && not (eqb (get_or (flags s) i 0) 1)) 0) (lent_at l lent i h))
    ∙ fired_at (mem i (words (post_part s at))) (mem i (words (pre_part s at))) (eqb (get_or (flags s) i 0) 1) (marking l i))

-- ---- what a step writes, by what it answers

module _ (s l : List ℕ) (at : ℕ) (r : Step) (told : r ≡ step_of (stopping (record_net s at) (marking l) 0)) where
  abbrev after : List ℕ
  after = stepped (stopping (record_net s at) (marking l) 0) (bytes (length l) (fire (record_net s at) (marking l) 0)) l

  pub step_kept : (x : Cause) → r ≡ Err x → l ≡ after
  step_kept x h = go (stopping (record_net s at) (marking l) 0) (sym told ∙ h)
    where
      go : (o : Option Stop) → step_of o ≡ Err x → l ≡ stepped o (bytes (length l) (fire (record_net s at) (marking l) 0)) l
      go none e = absurd (let z : ◌≡◌ {A = ℕ} 0 1 = cc in omega arith)
      go (some v) e = refl

  pub step_written : r ≡ goes → Lent l → (f pre post : List ℕ) → f ≡ flags s → pre ≡ pre_part s at → post ≡ post_part s at
      → set_all [] 1 (words post) (set_all f 0 (words pre) l) ≡ after
  step_written h lent f pre post is_f is_pre is_post = rw (is_f, is_pre, is_post) (fired s l at lent) ∙ go (stopping (record_net s at) (marking l) 0) (sym told ∙ h)
    where
      go : (o : Option Stop) → step_of o ≡ goes
          → bytes (length l) (fire (record_net s at) (marking l) 0) ≡ stepped o (bytes (length l) (fire (record_net s at) (marking l) 0)) l
      go none e = refl
      go (some v) e = absurd (let z : ◌≡◌ {A = ℕ} 0 1 = cc in omega arith)
