-- Firing and replay in the unfolded net on sets of unfolded conditions: the numbers of its lists are read as what stands at them.
use mathlib.Core.Path.{◌≡◌, refl, sym, ap, ◌∙◌, subst}
use mathlib.Core.Bool.{Bool, true, false}
use mathlib.Core.Logic.{inl, inr, ◌↔◌}
use mathlib.Core.Option.{none, some}
use mathlib.Core.List.{List}
use Prim.Native.Nat.{ℕ, ◌≤◌}
use borrow.Author.Tests.{lt-ltb}
use lib.Dec.{T, ltb}
use lib.ListN.{length}
use Rattle.model.specs.Net.{Net, Marking, concession, fire}
use Rattle.model.specs.Unfolding.{UnfoldedCondition, copy, basic}
use Rattle.model.specs.Across.{most_steps, unfolding_refused}
use Rattle.model.specs.Paper.{Set, ◌⊆◌, pre, post, holding, B', pre', post', BasicFires, MixedFires, copied}
use Rattle.refusal.specs.Answer.{Judged}
use Rattle.std.specs.Prelude.{Ok}
use Rattle.records.specs.Records.{old_rule}
use Rattle.table.specs.Walk.{judge_of}
use Rattle.table.specs.Decoded.{net_of}
use Rattle.layout.specs.Unfolds.{unfolding_of}
use Rattle.game.specs.Lent.{lent}
use Rattle.firing.specs.Calls.{unfolded_fire_of, unfolded_fired_of}
use Rattle.ends.specs.Calls.{unfolded_replay_of, unfolded_replayed_of}
use Rattle.inverse.proofs.Prefix.{prefix_passed}
use Rattle.promises.specs.Stopped.{before_unfolded, Passes}
use Rattle.promises.specs.Paper.{StandsAt, standing, event_at, colour_at, FiresBy, ReplaysBy, excused, Fires', in_sets}
use Rattle.promises.proofs.Paper.{through, stands_at, conditions_numbered, lists_paper}
use Rattle.promises.proofs.PaperGame.{Inside, Plays, plays_paper, plays_old, judged, fires_by, replays_by}

-- ---- one firing by numbers and in sets, where some numbers are excused, and what stands at them

module _ (s : List ℕ) (u : (own : Judged) → unfolding_of s own ≡ own) (j : ℕ) (low : ltb j (basic (net_of s)).events ≡ true)
    (I : Set ℕ) (K : Set UnfoldedCondition) (is : (i : ℕ) (p : UnfoldedCondition) → StandsAt s i p → I i ↔ K p)
    (m : Marking) (m-in : Inside (basic (net_of s)) m) (k : Marking) (k-in : Inside (basic (net_of s)) k) where
  abbrev n : Net
  n = basic (net_of s)

  abbrev taken : Set UnfoldedCondition
  taken = pre' (net_of s) (event_at s j) (colour_at s j)

  abbrev given : Set UnfoldedCondition
  given = post' (net_of s) (event_at s j) (colour_at s j)

  -- what is in a set of numbers of which p stands at i, is i itself
  at_one : (X : Set ℕ) (i : ℕ) (p : UnfoldedCondition) → StandsAt s i p → standing s X p → X i
  at_one X i p st h = subst X ((conditions_numbered s u).one h.0 i p h.2 st) h.1

  takes : (p : UnfoldedCondition) → standing s (pre n j) p ↔ taken p
  takes = (lists_paper s u false j low).stands

  gives : (p : UnfoldedCondition) → standing s (post n j) p ↔ given p
  gives = (lists_paper s u true j low).stands

  to_sets : MixedFires I n (holding m) j (holding k) → Fires' (net_of s) K (event_at s j) (colour_at s j) (standing s (holding m)) (standing s (holding k))
  to_sets f =
      record {
        all_hold = λ p a. let (i, x, st) = (takes p).1 a in (i, f.all_hold i x, st);
        no_contact = λ p. (
          λ h.
              let (i, x, st) = h.0.0 in
              let z = at_one (post n j) i p st ((gives p).1 h.1) in
              (f.no_contact i).0 ((x, λ y. h.0.1 ((takes p).0 (i, y.0, st), (is i p st).0 y.1)), z),
          λ z. absurd z,
        );
        result = λ p. (
          λ h.
              let (i, x, st) = h in
              elim ((f.result i).0 x) [
                | inl y ↦ inl ((i, y.0, st), λ a. y.1 (at_one (pre n j) i p st ((takes p).1 a)))
                | inr z ↦ inr ((gives p).0 (i, z, st))
              ],
          λ h. elim h [
            | inl y ↦ (y.0.0, (f.result y.0.0).1 (inl (y.0.1, λ a. y.1 ((takes p).0 (y.0.0, a, y.0.2)))), y.0.2)
            | inr z ↦ let (i, x, st) = (gives p).1 z in (i, (f.result i).1 (inr x), st)
          ],
        );
      }

  from_sets : Fires' (net_of s) K (event_at s j) (colour_at s j) (standing s (holding m)) (standing s (holding k)) → MixedFires I n (holding m) j (holding k)
  from_sets g =
      let every = (conditions_numbered s u).each in
      let taken_at = (lists_paper s u false j low).each in
      let given-at = (lists_paper s u true j low).each in
      record {
        all_hold = λ i a. let (p, st) = taken_at i a in at_one (holding m) i p st (g.all_hold p ((takes p).0 (i, a, st)));
        no_contact = λ i. (
          λ h.
              let (p, st) = given-at i h.1 in
              (g.no_contact p).0 (
                ((i, h.0.0, st), λ y. h.0.1 (at_one (pre n j) i p st ((takes p).1 y.0), (is i p st).1 y.1)),
                (gives p).0 (i, h.1, st),
              ),
          λ z. absurd z,
        );
        result = λ i. (
          λ x.
              let (p, st) = every i (k-in i x) in
              elim ((g.result p).0 (i, x, st)) [
                | inl y ↦ inl (at_one (holding m) i p st y.0, λ a. y.1 ((takes p).0 (i, a, st)))
                | inr z ↦ inr (at_one (post n j) i p st ((gives p).1 z))
              ],
          λ h. elim h [
            | inl y ↦ let (p, st) = every i (m-in i y.0) in
                at_one (holding k) i p st ((g.result p).1 (inl ((i, y.0, st), λ a. y.1 (at_one (pre n j) i p st ((takes p).1 a)))))
            | inr z ↦ let (p, st) = given-at i z in at_one (holding k) i p st ((g.result p).1 (inr ((gives p).0 (i, z, st))))
          ],
        );
      }

-- ---- by the rule that the table asks for

-- where all that is taken is excused, it is the paper's rule
all_excused : (n : Net) (I M M' : Set ℕ) (j : ℕ) → pre n j ⊆ I → BasicFires n M j M' ↔ MixedFires I n M j M'
all_excused n I M M' j h = (
  λ f.
      record {
        all_hold = f.all_hold;
        no_contact = λ i. (λ x. (f.no_contact i).0 ((x.0.0, λ a. x.0.1 (a, h i a)), x.1), λ z. absurd z);
        result = f.result;
      },
  λ f.
      record {
        all_hold = f.all_hold;
        no_contact = λ i. (λ x. (f.no_contact i).0 ((x.0.0, λ a. x.0.1 a.0), x.1), λ z. absurd z);
        result = f.result;
      },
)

module _ (s : List ℕ) (u : (own : Judged) → unfolding_of s own ≡ own) where
  -- the numbers of copies are those at which a copy stands
  copy_stands : (i : ℕ) (p : UnfoldedCondition) → StandsAt s i p → copied (net_of s) i ↔ excused (net_of s) true p
  copy_stands i p st =
      let at = stands_at s u i p st in (
        λ h. (h.0, h.1, h.2, some_same p (copy h.0 h.1 h.2) (sym at ∙ h.3)),
        λ h. (h.0, h.1, h.2, at ∙ ap some h.3),
      )
    where
      some_same : (x y : UnfoldedCondition) → some x ≡ some y → x ≡ y
      some_same x y e = cc

  plays_sets : (n : ℕ) → judge_of s ≡ Ok n → Plays (in_sets s) (net_of s)
  plays_sets n j m x i here k y = go (old_rule s) refl
    where
      low : ltb i (basic (net_of s)).events ≡ true
      low = lt-ltb i (basic (net_of s)).events here

      -- the numbers at which something stands
      some_at : Set ℕ
      some_at = λ d. (p : UnfoldedCondition) × StandsAt s d p

      go : (t : Bool) → old_rule s ≡ t → (T (concession (basic (net_of s)) m i) × (k ≡ fire (basic (net_of s)) m i))
          ↔ Fires' (net_of s) (excused (net_of s) t) (event_at s i) (colour_at s i) (standing s (holding m)) (standing s (holding k))
      go false q =
          let is : (d : ℕ) (p : UnfoldedCondition) → StandsAt s d p → some_at d ↔ B' (net_of s) p
          = λ d p st. (λ _. ((conditions_numbered s u).within d p st).1, λ _. (p, st)) in
          through (plays_paper s n j q m x i here k y)
          (through (all_excused (basic (net_of s)) some_at (holding m) (holding k) i (lists_paper s u false i low).each)
          (to_sets s u i low some_at (B' (net_of s)) is m x k y, from_sets s u i low some_at (B' (net_of s)) is m x k y))
      go true q =
          let C = copied (net_of s) in
          let K = excused (net_of s) true in
          through (plays_old s n j q m x i here k y) (to_sets s u i low C K copy_stands m x k y, from_sets s u i low C K copy_stands m x k y)

-- Where a table, its unfolding and a lent unfolded marking are accepted, a firing is that of the paper in sets of unfolded conditions.
pub unfolded_fire_sets : (s m : List ℕ) (j : ℕ) → Passes (before_unfolded s m) → FiresBy (in_sets s) (net_of s) m j (unfolded_fire_of s m j) (unfolded_fired_of s m j)
unfolded_fire_sets s m j h =
    let (n, e) = judged s m j h in
    let u = (prefix_passed s (lent (basic (net_of s)).conditions m (Ok 0)) 0 h).0 in
    fires_by s m j h (in_sets s) (plays_sets s u n e)

-- Of an accepted table that unfolds and at most 4,096 numbers, so is a replay.
pub unfolded_replay_sets : (s w out : List ℕ) (n : ℕ) → judge_of s ≡ Ok n → unfolding_refused (net_of s) ≡ none → length w ≤ most_steps
    → (basic (net_of s)).conditions ≤ length out → ReplaysBy (in_sets s) (net_of s) w (unfolded_replay_of s w (length out)) (unfolded_replayed_of s w out)
unfolding unfolding_of
unfolded_replay_sets s w out n j unfolds short room = replays_by s w out n j unfolds short room (in_sets s) (plays_sets s (λ own. rw (j, unfolds)) n j)
