-- Firing and replay in the unfolded net go by the paper's rule for basic nets, at rule 1 by the old one but for the copies.
use mathlib.Core.Path.{◌≡◌, refl, sym, ap, ◌∙◌, subst}
use mathlib.Core.Bool.{true, false}
use mathlib.Core.Logic.{◌↔◌}
use mathlib.Core.Option.{none}
use mathlib.Core.List.{List, [], ◌∷◌}
use Prim.Native.Nat.{ℕ, ◌≤◌, ◌<◌}
use native.Mathlib.Omega.{arith}
use native.Mathlib.Decide.{dec_le}
use lib.Dec.{T, eqb, eqb→eq, leb, ltb→lt, lt→ltb}
use lib.ListN.{length, take}
use Rattle.lists.specs.Lists.{mem}
use Rattle.lists.proofs.Bools.{T_of, is_false, not-true}
use Rattle.model.specs.Net.{Net, Sound, Marking, begin, concession, fire, stopping}
use Rattle.model.specs.Runs.{runs, end}
use Rattle.model.specs.Unfolding.{basic}
use Rattle.model.specs.Across.{of_unfolding, Answer, most_steps, unfolding_refused, project}
use Rattle.model.specs.Lent.{bytes, marking}
use Rattle.model.specs.Paper.{◌⊆◌, B, E, holding, BasicFires, MixedFires, copied}
use Rattle.model.proofs.Firing.{runs_first, runs_rest, runs_cons, can_event, can_concession, can_of, none_can, can_none, fire_none}
use Rattle.model.proofs.Answers.{length_short}
use Rattle.model.proofs.Lent.{Tidy, length_bytes, marking_bytes, tidy_marking}
use Rattle.model.proofs.Sets.{basic_sound}
use Rattle.model.proofs.Rule.{unfolded_paper, unfolded_old}
use Rattle.model.proofs.Demands.{project_exactly}
use Rattle.refusal.specs.Answer.{Judged, need, written}
use Rattle.std.specs.Prelude.{Ok, Err}
use Rattle.refusal.proofs.Chain.{need_passes, need_fine, fitting_room, written_front}
use Rattle.records.specs.Records.{old_rule}
use Rattle.table.specs.Walk.{judge_of}
use Rattle.table.specs.Decoded.{net_of}
use Rattle.table.specs.Links.{refused_or}
use Rattle.table.proofs.Ruled.{rule_read}
use Rattle.layout.proofs.Limits.{unfolds_judged}
use Rattle.game.specs.Lent.{first_above, lent}
use Rattle.game.specs.Calls.{firing_stopped, leaves}
use Rattle.firing.specs.Calls.{unfolded_fire_of, unfolded_fired_of}
use Rattle.across.specs.Calls.{ended}
use Rattle.across.proofs.Prefix.{ended_fine}
use Rattle.ends.specs.Calls.{unfolded_replay_of, unfolded_replayed_of}
use Rattle.inverse.proofs.Prefix.{prefix_passed}
use Rattle.promises.specs.Stopped.{before_unfolded, Passes}
use Rattle.promises.specs.Paper.{Rule, FiresBy, LeadsTo, ReplaysBy}
use Rattle.promises.proofs.Ruled.{unstopped, fired_again}

-- a marking is one of a net's conditions
abbrev pub Inside : Net → Marking → Type 0
Inside n m = holding m ⊆ B n

inside_tidy : (n : Net) (m : Marking) → Inside n m → Tidy n.conditions m
inside_tidy n m h b l = is_false (m b) (λ t. let low = h b t in omega arith)

tidy_inside : (n : Net) (m : Marking) → Tidy n.conditions m → Inside n m
tidy_inside n m h b t = go (dec_le n.conditions b)
  where
    go : Dec (n.conditions ≤ b) → b < n.conditions
    go (yes l) = absurd (not-true (m b) (h b l) t)
    go (no l) = omega arith

bytes_inside : (n : Net) (l : List ℕ) → length l ≡ n.conditions → Inside n (marking l)
bytes_inside n l e = tidy_inside n (marking l) (λ b h. tidy_marking l b (omega (arith, e, h)))

fire_inside : (n : Net) → Sound n → (m : Marking) → Inside n m → (e : ℕ) → E n e → Inside n (fire n m e)
fire_inside n d m h e low =
    tidy_inside n (fire n m e) (λ b l.
    fire_none n m e b (is_false (mem b (n.postconditions e)) (λ i. absurd (omega (arith, d.post_in e b low i, l)))) (inside_tidy n m h b l))

-- a rule is the one by which the unfolded net is played
abbrev pub Plays : Rule → Net → Type 0
Plays F n =
    (m : Marking) → Inside (basic n) m → (j : ℕ) → E (basic n) j → (k : Marking) → Inside (basic n) k
    → (T (concession (basic n) m j) × (k ≡ fire (basic n) m j)) ↔ F (basic n) (holding m) j (holding k)

-- which rule that is, by the table's Rule record
pub plays_paper : (s : List ℕ) (n : ℕ) → judge_of s ≡ Ok n → old_rule s ≡ false → Plays BasicFires (net_of s)
plays_paper s n j q m x i low k y = unfolded_paper (net_of s) i m k (λ b. rule_read s n j b ∙ q)

pub plays_old : (s : List ℕ) (n : ℕ) → judge_of s ≡ Ok n → old_rule s ≡ true → Plays (MixedFires (copied (net_of s))) (net_of s)
plays_old s n j q m x i low k y = unfolded_old (net_of s) i m k (λ b. rule_read s n j b ∙ q)

-- ---- one firing

module _ (s m : List ℕ) (j : ℕ) (passes : Passes (before_unfolded s m)) where
  abbrev c : ℕ
  c = (basic (net_of s)).conditions

  -- what is known of a table and a marking that are accepted
  pub judged : (n : ℕ) × (judge_of s ≡ Ok n)
  judged = unfolds_judged s (Ok 0) 0 (sym ((prefix_passed s (lent c m (Ok 0)) 0 passes).0 (Ok 0))) refl

  fits : (eqb (length m) c ≡ true) × (leb (length m) (first_above m) ≡ true)
  unfolding lent
  fits =
      let o = prefix_passed s (lent c m (Ok 0)) 0 passes in
      let (x, r) = need_fine (eqb (length m) c) 18 c 0 (need (leb (length m) (first_above m)) 18 (first_above m) (Ok 0)) o.1 in
      (x, (need_fine (leb (length m) (first_above m)) 18 (first_above m) 0 (Ok 0) r).0)

  asked : (unfolded_fire_of s m j ≡ Ok c) ↔ (E (basic (net_of s)) j × T (concession (basic (net_of s)) (marking m) j))
  unfolding unfolded_fire_of lent
  asked =
      let n = basic (net_of s) in
      let own = refused_or (firing_stopped of_unfolding (stopping n (marking m) j)) (Ok c) in
      let told : unfolded_fire_of s m j ≡ own
      = (prefix_passed s (lent c m (Ok 0)) 0 passes).0 (lent c m own) ∙ need_passes 18 c fits.0 ∙ need_passes 18 (first_above m) fits.1 in
      let free = unstopped of_unfolding (stopping n (marking m) j) c in (
        λ e.
            let can = none_can n (marking m) j (free.0 (sym told ∙ e)) in
            (ltb→lt j n.events (can_event n (marking m) j can), can_concession n (marking m) j can),
        λ h. told ∙ free.1 (can_none n (marking m) j (can_of n (marking m) j (lt→ltb j n.events h.0) h.1)),
      )

  left : E (basic (net_of s)) j → T (concession (basic (net_of s)) (marking m) j) → marking (unfolded_fired_of s m j) ≡ fire (basic (net_of s)) (marking m) j
  unfolding unfolded_fired_of
  left low t =
      ap (λ (x : Judged). marking (leaves x (bytes c (fire (basic (net_of s)) (marking m) j)) m)) (asked.1 (low, t))
      ∙ fired_again (basic (net_of s)) (basic_sound (net_of s)) m (eqb→eq (length m) c (T_of (eqb (length m) c) fits.0)) j low

  long : length m ≡ c
  long = eqb→eq (length m) c (T_of (eqb (length m) c) fits.0)

  left_long : length (unfolded_fired_of s m j) ≡ c
  unfolding unfolded_fired_of
  left_long = go (unfolded_fire_of s m j)
    where
      go : (a : Judged) → length (leaves a (bytes c (fire (basic (net_of s)) (marking m) j)) m) ≡ c
      go (Ok v) = length_bytes c (fire (basic (net_of s)) (marking m) j)
      go (Err x) = long

  pub fires_by : (F : Rule) → Plays F (net_of s) → FiresBy F (net_of s) m j (unfolded_fire_of s m j) (unfolded_fired_of s m j)
  fires_by F is =
      let new = marking (unfolded_fired_of s m j) in
      let old-in = bytes_inside (basic (net_of s)) m long in
      let new_in = bytes_inside (basic (net_of s)) (unfolded_fired_of s m j) left_long in
      record {
        worked = (
          λ e. let (low, t) = asked.0 e in (low, (is (marking m) old-in j low new new_in).0 (t, left low t)),
          λ h. asked.1 (h.0, ((is (marking m) old-in j h.0 new new_in).1 h.1).0),
        );
        only = λ k k-in low f. let h = (is (marking m) old-in j low k k-in).1 f in left low h.0 ∙ sym h.1;
      }

  -- Where a table, its unfolding and a lent unfolded marking are accepted, a firing goes by the paper's rule for basic nets,
  pub unfolded_fire_paper : old_rule s ≡ false → FiresBy BasicFires (net_of s) m j (unfolded_fire_of s m j) (unfolded_fired_of s m j)
  unfolded_fire_paper q = fires_by BasicFires (plays_paper s judged.0 judged.1 q)

  -- at rule 1 by the old one, but for the copies of persistent conditions.
  pub unfolded_fire_old : old_rule s ≡ true → FiresBy (MixedFires (copied (net_of s))) (net_of s) m j (unfolded_fire_of s m j) (unfolded_fired_of s m j)
  unfolded_fire_old q = fires_by (MixedFires (copied (net_of s))) (plays_old s judged.0 judged.1 q)

-- ---- a run

module _ (F : Rule) (n : Net) (is : Plays F n) where
  runs_lead : (m : Marking) → Inside (basic n) m → (w : List ℕ) → T (runs (basic n) m w) → LeadsTo F (basic n) m w (end (basic n) m w)
  unfolding end
  runs_lead m x [] t = refl
  runs_lead m x (j ∷ w) t =
      let can = runs_first (basic n) m j w t in
      let low = ltb→lt j (basic n).events (can_event (basic n) m j can) in
      let next = fire (basic n) m j in
      let y = fire_inside (basic n) (basic_sound n) m x j low in
      (next, y, low, (is m x j low next y).0 (can_concession (basic n) m j can, refl), runs_lead next y w (runs_rest (basic n) m j w t))

  lead_runs : (m : Marking) → Inside (basic n) m → (w : List ℕ) (k : Marking) → LeadsTo F (basic n) m w k → T (runs (basic n) m w) × (end (basic n) m w ≡ k)
  unfolding runs end
  lead_runs m x [] k h = (tt, h)
  lead_runs m x (j ∷ w) k (u, y, low, f, h) =
      let (t, q) = (is m x j low u y).1 f in
      let r = lead_runs u y w k h in
      let can = can_of (basic n) m j (lt→ltb j (basic n).events low) t in (
        runs_cons (basic n) m j w can (subst (λ (v : Marking). T (runs (basic n) v w)) q r.0),
        ap (λ (v : Marking). end (basic n) v w) (sym q) ∙ r.1,
      )

-- nothing comes to hold past the conditions
begin_inside : (n : Net) → Sound n → Inside n (begin n)
unfolding begin
begin_inside n d = d.start_in

end_inside : (n : Net) → Sound n → (m : Marking) (r : List ℕ) → T (runs n m r) → Inside n m → Inside n (end n m r)
unfolding end
end_inside n d m [] t h = h
end_inside n d m (e ∷ r) t h =
    let low = ltb→lt e n.events (can_event n m e (runs_first n m e r t)) in
    end_inside n d (fire n m e) r (runs_rest n m e r t) (fire_inside n d m h e low)

-- what is written of the end of a run, read again, is that end
pub written_end : (n : Net) → Sound n → (r : List ℕ) → T (runs n (begin n) r) → (a : Judged) (v : ℕ) (out : List ℕ) → a ≡ Ok v
    → marking (take n.conditions (written a (bytes n.conditions (end n (begin n) r)) out)) ≡ end n (begin n) r
written_end n d r t a v out e =
    let last = end n (begin n) r in
    let all = bytes n.conditions last in
    ap (λ (x : ℕ). marking (take x (written a all out))) (sym (length_bytes n.conditions last))
    ∙ ap marking (written_front a v all out e)
    ∙ marking_bytes n.conditions last (inside_tidy n last (end_inside n d (begin n) r t (begin_inside n d)))

module _ (s w out : List ℕ) (n : ℕ) (j : judge_of s ≡ Ok n) (unfolds : unfolding_refused (net_of s) ≡ none) (short : length w ≤ most_steps)
    (room : (basic (net_of s)).conditions ≤ length out) where
  pub replayed : (unfolded_replay_of s w (length out) ≡ Ok (basic (net_of s)).conditions) ↔ T (runs (basic (net_of s)) (begin (basic (net_of s))) w)
  unfolding unfolded_replay_of ended
  replayed =
      let c = (basic (net_of s)).conditions in
      let told : unfolded_replay_of s w (length out) ≡ ended (project (net_of s) w) c (length out) = rw j in
      let exactly = project_exactly (net_of s) w (length_short w short) unfolds in (
        λ e. let (r, a, x, y) = ended_fine (project (net_of s) w) c (length out) c (sym told ∙ e) in exactly.0 (r, a),
        λ t. let (r, a) = exactly.1 t in told ∙ ap (λ (x : Answer). ended x c (length out)) a ∙ fitting_room c (length out) room,
      )

  pub replayed_end : T (runs (basic (net_of s)) (begin (basic (net_of s))) w)
      → marking (take (basic (net_of s)).conditions (unfolded_replayed_of s w out)) ≡ end (basic (net_of s)) (begin (basic (net_of s))) w
  unfolding unfolded_replayed_of
  replayed_end t =
      written_end (basic (net_of s)) (basic_sound (net_of s)) w t (unfolded_replay_of s w (length out)) (basic (net_of s)).conditions out (replayed.1 t)

  pub replays_by : (F : Rule) → Plays F (net_of s) → ReplaysBy F (net_of s) w (unfolded_replay_of s w (length out)) (unfolded_replayed_of s w out)
  replays_by F is =
      let first = begin (basic (net_of s)) in
      let inside = begin_inside (basic (net_of s)) (basic_sound (net_of s)) in
      record {
        worked = (
          λ e. (end (basic (net_of s)) first w, runs_lead F (net_of s) is first inside w (replayed.0 e)),
          λ h. replayed.1 (lead_runs F (net_of s) is first inside w h.0 h.1).0,
        );
        reached = λ k h. let (t, q) = lead_runs F (net_of s) is first inside w k h in replayed_end t ∙ q;
      }

  -- Of an accepted table that unfolds and at most 4,096 numbers, a replay goes by the paper's rule for basic nets,
  pub unfolded_replay_paper : old_rule s ≡ false → ReplaysBy BasicFires (net_of s) w (unfolded_replay_of s w (length out)) (unfolded_replayed_of s w out)
  unfolded_replay_paper q = replays_by BasicFires (plays_paper s n j q)

  -- at rule 1 by the old one, but for the copies of persistent conditions.
  pub unfolded_replay_old : old_rule s ≡ true
      → ReplaysBy (MixedFires (copied (net_of s))) (net_of s) w (unfolded_replay_of s w (length out)) (unfolded_replayed_of s w out)
  unfolded_replay_old q = replays_by (MixedFires (copied (net_of s))) (plays_old s n j q)
