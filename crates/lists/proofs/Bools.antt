-- Laws of tests: conjunction, disjunction and implication taken apart and put together.
use mathlib.Core.Path.{◌≡◌, refl, sym, subst}
use mathlib.Core.Bool.{Bool, true, false, not, ◌&&◌, ◌||◌}
use lib.Dec.{T}
use Rattle.lists.specs.Lists.{◌⇒◌, same}

-- ---- a test and its value

pub is_true : (b : Bool) → T b → b ≡ true
is_true true t = refl
is_true false t = absurd t

pub T_of : (b : Bool) → b ≡ true → T b
T_of true e = tt
T_of false e = subst T (sym e) tt

pub is_false : (b : Bool) → (T b → ⊥) → b ≡ false
is_false true f = absurd (f tt)
is_false false f = refl

pub not-true : (b : Bool) → b ≡ false → T b → ⊥
not-true b e t = subst T e t

pub not_out : (b : Bool) → T (not b) → T b → ⊥
not_out true t s = t
not_out false t s = s

pub not_in : (b : Bool) → (T b → ⊥) → T (not b)
not_in true f = f tt
not_in false f = tt

-- a test that cannot fail passes
pub not_not : (b : Bool) → ((T b → ⊥) → ⊥) → T b
not_not true f = tt
not_not false f = f (λ t. t)

-- tests that imply each other are one
pub iff : (a b : Bool) → (T a → T b) → (T b → T a) → a ≡ b
iff true b f g = sym (is_true b (f tt))
iff false b f g = sym (is_false b g)

pub same_eq : (a b : Bool) → T (same a b) → a ≡ b
same_eq true true t = refl
same_eq true false t = absurd t
same_eq false true t = absurd t
same_eq false false t = refl

-- ---- conjunction

pub and_left : (a b : Bool) → T (a && b) → T a
and_left true b t = tt
and_left false b t = t

pub and_right : (a b : Bool) → T (a && b) → T b
and_right true b t = t
and_right false b t = absurd t

pub and_both : (a b : Bool) → T a → T b → T (a && b)
and_both true b s t = t
and_both false b s t = s

pub and-true : (a b : Bool) → (a && b) ≡ true → (a ≡ true) × (b ≡ true)
and-true true b e = (refl, e)
and-true false b e = absurd (subst T (sym e) tt)

pub and4 : (a b c d : Bool) → T (a && b && c && d) → T a × T b × T c × T d
and4 true true true d t = (tt, tt, tt, t)
and4 true true false d t = absurd t
and4 true false c d t = absurd t
and4 false b c d t = absurd t

-- ---- disjunction

pub or_left : (a b : Bool) → T a → T (a || b)
or_left true b t = tt
or_left false b t = absurd t

pub or_right : (a b : Bool) → T b → T (a || b)
or_right true b t = tt
or_right false b t = t

pub or_cases {ℓ} : {X : Type ℓ} (a b : Bool) → T (a || b) → (T a → X) → (T b → X) → X
or_cases true b t f g = f tt
or_cases false b t f g = g t

pub or_none : (b : Bool) → (b || false) ≡ b
or_none true = refl
or_none false = refl

pub or_swap : (a b c : Bool) → (b || (a || c)) ≡ (a || (b || c))
or_swap true true c = refl
or_swap true false c = refl
or_swap false true c = refl
or_swap false false c = refl

-- ---- implication

pub imp_elim : (a b : Bool) → T (a ⇒ b) → T a → T b
imp_elim true b t s = t
imp_elim false b t s = absurd s

pub imp_intro : (a b : Bool) → (T a → T b) → T (a ⇒ b)
imp_intro true b f = f tt
imp_intro false b f = tt

pub imp5 : (a b c d e r : Bool) → T (a ⇒ b ⇒ c ⇒ d ⇒ e ⇒ r) → T a → T b → T c → T d → T e → T r
imp5 true true true true true r h x y z u v = h
imp5 true true true true false r h x y z u v = absurd v
imp5 true true true false e r h x y z u v = absurd u
imp5 true true false d e r h x y z u v = absurd z
imp5 true false c d e r h x y z u v = absurd y
imp5 false b c d e r h x y z u v = absurd x

pub imp_or : (x a : Bool) → T x → T (not x || a) → T a
imp_or true a h t = t
imp_or false a h t = absurd h

pub or_imp : (x a : Bool) → (T x → T a) → T (not x || a)
or_imp true a f = f tt
or_imp false a f = tt

-- ---- a test of all Booleans, computed once and used at each

abbrev pub every : (Bool → Bool) → Bool
every f = f true && f false

pub every_at : (f : Bool → Bool) → T (every f) → (b : Bool) → T (f b)
every_at f t true = and_left (f true) (f false) t
every_at f t false = and_right (f true) (f false) t
