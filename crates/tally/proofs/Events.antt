-- An event of an accepted table: where its record stands and what its lists are in the decoded net.
use Prim.Native.Nat.{ℕ, ◌<◌}
use native.Mathlib.Omega.{arith}
use mathlib.Core.Path.{◌≡◌, sym, ap, ◌∙◌}
use mathlib.Core.List.{List}
use mathlib.Core.Bool.{Bool, true, false}
use lib.Dec.{T}
use Rattle.lists.specs.Lists.{mem, ascending}
use Rattle.model.specs.Net.{Net, Sound}
use Rattle.words.specs.Words.{words}
use Rattle.std.specs.Prelude.{Ok}
use Rattle.table.specs.Walk.{offset_of}
use Rattle.table.specs.Decoded.{net_of}
use Rattle.table.specs.Tabled.{Tabled}
use Rattle.table.proofs.Decoded.{net_judged}
use Rattle.table.proofs.Sound.{tabled}
use Rattle.table.proofs.InOrder.{judged}
use Rattle.tally.specs.Having.{list_of, list_part}

module _ (s : List ℕ) (e : ℕ) (h : e < (net_of s).events) where
  pub within_limits : Tabled (net_of s)
  within_limits = tabled s (net_of s).events (judged s e h)

  pub sound : Sound (net_of s)
  sound = within_limits.sound

  pub list_read : (post : Bool) → words (list_part post s (offset_of s e)) ≡ list_of (net_of s) post e
  list_read true = sym (ap (λ (n : Net). n.postconditions e) (net_judged s (Ok (net_of s).events) (judged s e h)))
  list_read false = sym (ap (λ (n : Net). n.preconditions e) (net_judged s (Ok (net_of s).events) (judged s e h)))

  pub list_ascends : (post : Bool) → T (ascending (list_of (net_of s) post e))
  list_ascends true = sound.post_ascends_lem e h
  list_ascends false = sound.pre_ascends_lem e h

  pub list_inside : (post : Bool) (b : ℕ) → T (mem b (list_of (net_of s) post e)) → b < 256
  list_inside true b t = omega (arith, sound.post_in e b h t, within_limits.few_conditions)
  list_inside false b t = omega (arith, sound.pre_in e b h t, within_limits.few_conditions)

-- a walk over the events that is at event i
module _ (s : List ℕ) (i at : ℕ) (h : i < (net_of s).events) (q : at ≡ offset_of s i) where
  pub walk_has : (post : Bool) (b : ℕ) (l : List ℕ) {r : Bool} → l ≡ list_part post s at → r ≡ mem b (words l) → mem b (list_of (net_of s) post i) ≡ r
  walk_has post b l e t = sym (t ∙ rw (e, q, list_read s i h post))
