-- A colour as a call tells it is the list of markers that it was made of.
use Prim.Native.Nat.{ℕ, zero, suc, ◌+◌, ◌-◌, ◌≤◌, ◌<◌}
use native.Mathlib.Omega.{arith}
use native.Mathlib.Nat.{zero-add}
use mathlib.Core.Path.{◌≡◌, refl, sym, ap, ◌∙◌}
use mathlib.Core.List.{List, [], ◌∷◌, ◌++◌, map, append_assoc}
use lib.ListN.{length, length-set}
use lib.Seq.{get_or-set_same, get_or-set_other}
use Rattle.lists.specs.Lists.{count}
use Rattle.lists.proofs.Positions.{count_split}
use Rattle.model.specs.Runs.{Marker}
use Rattle.refusal.specs.declared.Marker.TheVariants.{Start}
use Rattle.events.specs.declared.Colour.{Colour}
use Rattle.unfolding.specs.Markers.{shown, meant}
use Rattle.events.specs.Colours.{no_colour, push, push_all, marker_at, colour_of}
use Rattle.inverse.proofs.Conditions.{meant_shown}

map-append : {A B : Type 0} (f : A → B) (xs ys : List A) → map f (xs ++ ys) ≡ map f xs ++ map f ys
map-append f [] ys = refl
map-append {A} {B} f (x ∷ xs) ys = ap {B = List B} (λ z. f x ∷ z) (map-append f xs ys)

map_same : {B : Type 0} (f g : ℕ → B) (i k : ℕ) → ((x : ℕ) → x < i + k → f x ≡ g x) → map f (count i k) ≡ map g (count i k)
map_same f g i zero h = refl
map_same f g i (suc k) h = rw (h i (omega arith), map_same f g (suc i) k (λ x l. h x (omega arith)))

-- one marker more
push_more : (c : Colour) (m : Marker) → c.count < length c.picks → colour_of (push c (shown m)) ≡ colour_of c ++ (m ∷ [])
push_more c m h =
    let a : c.count + 1 - 0 ≡ c.count + 1 = omega arith in
    let z : c.count - 0 ≡ c.count = omega arith in
    let d = push c (shown m) in
    let last : marker_at d c.count ≡ m = ap meant (get_or-set_same c.picks c.count (shown m) Start h) ∙ meant_shown m in
    let rest : map (marker_at d) (count 0 c.count) ≡ map (marker_at c) (count 0 c.count)
    = map_same (marker_at d) (marker_at c) 0 c.count (λ x l. ap meant (get_or-set_other c.picks c.count x (shown m) Start (λ e. omega (arith, e)))) in
    ap (λ (k : ℕ). map (marker_at d) (count 0 k)) a
    ∙ ap (λ (l : List ℕ). map (marker_at d) l) (rw zero-add at (count_split 0 c.count 1))
    ∙ map-append (marker_at d) (count 0 c.count) (c.count ∷ [])
    ∙ ap (λ (l : List Marker). l ++ (marker_at d c.count ∷ [])) rest
    ∙ ap (λ (x : Marker). map (marker_at c) (count 0 c.count) ++ (x ∷ [])) last
    ∙ ap (λ (k : ℕ). map (marker_at c) (count 0 k) ++ (m ∷ [])) (sym z)

-- a list of markers more
push_all_lem : (c : Colour) (ms : List Marker) → c.count + length ms ≤ length c.picks → colour_of (push_all c ms) ≡ colour_of c ++ ms
unfolding push_all
push_all_lem c [] h = sym (append-nil (colour_of c))
  where
    append-nil : (l : List Marker) → l ++ [] ≡ l
    append-nil [] = refl
    append-nil (x ∷ l) = ap {B = List Marker} (λ z. x ∷ z) (append-nil l)
push_all_lem c (m ∷ ms) h =
    push_all_lem (push c (shown m)) ms (omega (arith, length-set c.picks c.count (shown m)))
    ∙ ap (λ (l : List Marker). l ++ ms) (push_more c m (omega arith)) ∙ append_assoc (colour_of c) (m ∷ []) ms

-- Markers that were told, at most sixteen, are meant again.
pub colour_told : (ms : List Marker) → length ms ≤ 16 → colour_of (push_all no_colour ms) ≡ ms
colour_told ms h = push_all_lem no_colour ms (rw zero-add h)
