-- The tests as they are made: on one condition, then on an event.
use Prim.Native.Nat.{ℕ}
use mathlib.Core.Path.{◌≡◌}
use mathlib.Core.Bool.{true, false}
use mathlib.Core.List.{List}
use lib.Dec.{eqb}
use lib.ListN.{get_or}
use Rattle.lists.specs.Lists.{mem, all, any}
use Rattle.colours.specs.Colours.{flagged}
use Rattle.losses.specs.Tests.{kept_at, steady_at, spent_at, recurs_at}

-- ---- one condition

module _ (s l : List ℕ) (b : ℕ) where
  pub kept_flagged : flagged s b ≡ true → true ≡ kept_at s l b
  kept_flagged p = rw p

  pub kept_listed : flagged s b ≡ false → mem b l ≡ kept_at s l b
  kept_listed p = rw p

  pub spent_flagged : flagged s b ≡ true → false ≡ spent_at s l b
  spent_flagged p = rw p

  pub spent_counted : flagged s b ≡ false → eqb (get_or l b 0) 0 ≡ spent_at s l b
  spent_counted p = rw p

-- ---- an event

module _ (s pre post : List ℕ) where
  pub steady_put : all (kept_at s post) pre ≡ true → all (kept_at s pre) post ≡ steady_at s pre post
  steady_put p = rw p

  pub steady_taken : all (kept_at s post) pre ≡ false → false ≡ steady_at s pre post
  steady_taken p = rw p

module _ (s puts pre post : List ℕ) where
  pub steady_stops : steady_at s pre post ≡ true → false ≡ recurs_at s puts pre post
  steady_stops p = rw p

  module _ (p : steady_at s pre post ≡ false) where
    pub spending_stops : any (spent_at s puts) pre ≡ true → false ≡ recurs_at s puts pre post
    spending_stops q = rw (p, q)

    pub may_recur : any (spent_at s puts) pre ≡ false → true ≡ recurs_at s puts pre post
    may_recur q = rw (p, q)
