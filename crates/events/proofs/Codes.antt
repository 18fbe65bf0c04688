-- Colours told by numbers, one for each marker.
use Prim.Native.Nat.{ℕ, ◌+◌, ◌≤◌, ◌<◌}
use native.Mathlib.Omega.{arith}
use native.Mathlib.Numerals.{add-one}
use mathlib.Core.Path.{◌≡◌, refl, ap, ◌∙◌}
use mathlib.Core.List.{List, [], ◌∷◌, ◌++◌, map, map-append}
use lib.ListN.{length, get_or, take, set, length-map}
use lib.Seq.{length-take-le, take-suc, take-suc-set}
use Rattle.model.specs.Runs.{Marker}
use Rattle.unfolding.specs.Markers.{shown}
use Rattle.unfolding.specs.Numbers.{code, told}
use Rattle.unfolding.proofs.Places.{code_told}
use Rattle.events.specs.declared.Colour.{Colour}
use Rattle.events.specs.Colours.{no_colour, push, push_all}
use Rattle.events.specs.Numbers.{told_by}

pub count_all : (c : Colour) (ms : List Marker) → (push_all c ms).count ≡ c.count + length ms
unfolding push_all
count_all c [] = omega arith
count_all c (m ∷ ms) = omega (arith, count_all (push c (shown m)) ms)

all_one : (c : Colour) (ms : List Marker) (m : Marker) → push_all c (ms ++ (m ∷ [])) ≡ push (push_all c ms) (shown m)
unfolding push_all
all_one c [] m = refl
all_one c (x ∷ ms) m = all_one (push c (shown x)) ms m

pub told_none : (codes : List ℕ) → no_colour ≡ told_by codes 0
unfolding told_by push_all
told_none codes = refl

module _ (codes : List ℕ) (k : ℕ) where
  pub told_count : k ≤ length codes → (told_by codes k).count ≡ k
  unfolding told_by
  told_count h = count_all no_colour (map told (take k codes)) ∙ omega (arith, length-map (take k codes) told, length-take-le k codes h)

  -- one number more tells one marker more
  pub told_more : k < length codes → told_by codes (k + 1) ≡ push (told_by codes k) (shown (told (get_or codes k 0)))
  unfolding told_by
  told_more h = rw (add-one, take-suc codes k 0 h, map-append) (all_one no_colour (map told (take k codes)) (told (get_or codes k 0)))

  -- so does the number of a marker that is written behind
  pub told_set : k < length codes → (m : Marker) (x : ℕ) → x ≡ code m → told_by (set codes k x) (k + 1) ≡ push (told_by codes k) (shown m)
  unfolding told_by
  told_set h m x e =
      rw (add-one, take-suc-set codes k x h, map-append, e) (all_one no_colour (map told (take k codes)) (told (code m)))
      ∙ ap (λ (y : Marker). push (told_by codes k) (shown y)) (code_told m)

-- what the rest of a walk tells after its first marker was written is what the whole walk tells
pub told_down : (codes : List ℕ) {k x : ℕ} {m : Marker} {ms ds : List Marker} {c : Colour} → k < length codes → x ≡ code m → ds ≡ m ∷ ms
    → c ≡ push_all (told_by (set codes k x) (k + 1)) ms → c ≡ push_all (told_by codes k) ds
unfolding push_all
told_down codes {k} {x} {m} {ms} h e q t = t ∙ rw (told_set codes k h m x e, q)

pub told_whole : (codes : List ℕ) (ds : List Marker) {c : Colour} → c ≡ push_all (told_by codes 0) ds → c ≡ push_all no_colour ds
told_whole codes ds t = rw (← told_none codes) at t
