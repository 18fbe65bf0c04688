-- The tests of the lists of two events are the model's premises of an exchange.
use Prim.Native.Nat.{ℕ}
use mathlib.Core.Path.{◌≡◌, refl, sym, ap, ◌∙◌}
use mathlib.Core.Bool.{Bool, true, false, ◌&&◌}
use mathlib.Core.List.{List, [], ◌∷◌, ◌++◌}
use borrow.Author.Tests.{eq-eqb, ne_eqb}
use Rattle.lists.specs.Lists.{all}
use Rattle.model.specs.Net.{Net, Marking}
use Rattle.model.specs.Exchange.{touch, apart}
use Rattle.std.specs.Prelude.{Ok}
use Rattle.words.specs.Words.{words}
use Rattle.records.specs.Records.{flags, pre_part, post_part}
use Rattle.table.specs.Decoded.{net_of}
use Rattle.table.proofs.Decoded.{net_judged}
use Rattle.apart.specs.declared.Test.TheVariants.{Shared, Held, Once}
use Rattle.apart.specs.Tests.{passes_of}
use Rattle.apart.specs.Found.{Found}

all_append : (f : ℕ → Bool) (a b : List ℕ) → all f (a ++ b) ≡ (all f a && all f b)
all_append f [] b = refl
all_append f (x ∷ a) b = ap (λ (y : Bool). f x && y) (all_append f a b) ∙ assoc (f x) (all f a) (all f b)
  where
    assoc : (x y z : Bool) → (x && (y && z)) ≡ ((x && y) && z)
    assoc true y z = refl
    assoc false y z = refl

pub never_itself : (n : Net) (m : Marking) (e f : ℕ) → e ≡ f → false ≡ apart n m e f
unfolding apart
never_itself n m e f h = rw (eq-eqb e f h)

-- the lists of two events that differ, as they are read
module _ (s : List ℕ) (m : Marking) (e here f there : ℕ) (p : Found s e here) (q : Found s f there) (differ : e ≡ f → ⊥) (kept pre_e post_e pre_f post_f : List ℕ)
    (is_kept : kept ≡ flags s) (is_pre_e : pre_e ≡ pre_part s here) (is_post_e : post_e ≡ post_part s here) (is_pre_f : pre_f ≡ pre_part s there) (is_post_f : post_f ≡ post_part s there) where
  abbrev taken : Bool
  taken = all (passes_of Shared kept m (words pre_f) (words post_f)) (words pre_e)

  abbrev put : Bool
  put = all (passes_of Shared kept m (words pre_f) (words post_f)) (words post_e)

  abbrev read : Bool
  read = all (passes_of Held kept m (words pre_f) (words post_f)) (words pre_f)

  abbrev both : Bool
  both = all (passes_of Once kept m (words pre_f) (words post_f)) (words post_e)

  premises : apart (net_of s) m e f ≡ (true && (taken && put) && read && both)
  unfolding apart touch
  premises =
      rw (net_judged s (Ok p.events) p.judged, ne_eqb e f differ, is_kept, is_pre_e, is_post_e, is_pre_f, is_post_f, p.place, q.place, all_append)

  pub apart_by : (a b c d : Bool) → a ≡ taken → b ≡ put → c ≡ read → d ≡ both → ((a && b) && c && d) ≡ apart (net_of s) m e f
  apart_by a b c d x y z w = rw (x, y, z, w) (sym premises)
