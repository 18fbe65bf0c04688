-- All pieces together are the listing.
use Prim.Native.Nat.{ℕ, zero, suc, ◌+◌, ◌-◌, ◌≤◌, ◌<◌}
use native.Mathlib.Decide.{dec_le}
use native.Mathlib.Numerals.{add-one}
use native.Mathlib.Omega.{arith}
use mathlib.Core.Path.{◌≡◌, refl, sym, ap, ◌∙◌, subst}
use mathlib.Core.Bool.{Bool}
use mathlib.Core.List.{List, [], ◌∷◌, ◌++◌, append_assoc}
use lib.Dec.{T, eqb}
use lib.ListN.{length, get_or, drop, drop_of_length-le}
use lib.Seq.{drop-cons}
use Rattle.lists.specs.Lists.{keep, count}
use Rattle.model.specs.Net.{Net, Sound, Marking, begin, can, fire}
use Rattle.model.specs.Runs.{runs, end}
use Rattle.model.specs.Unfolding.{basic}
use Rattle.model.specs.Lent.{bytes, marking}
use Rattle.model.proofs.Firing.{runs_first, runs_rest, can_none}
use Rattle.model.proofs.Lent.{length_bytes, bytes_at, bit_one, begun_marking}
use Rattle.played.proofs.Playing.{fired_marking}
use Rattle.listing.specs.Text.{newline, end_words, commas, holding, start_line, step_line, end_line}
use Rattle.listing.specs.Calls.{held_in, first_in, next_of, first_piece, more_piece}
use Rattle.listing.specs.Whole.{step_lines}
use Rattle.listing.proofs.Lines.{list_parts, no_more, parted}
use Rattle.lines.specs.declared.Place.TheVariants.{Start, Step, End, More, Last, Over}
use Rattle.lines.proofs.Writing.{at_step, past_steps, at_more, past_more}
use Rattle.lines.specs.Places.{step_from, more_from, fired, step_text, left_at, text_from, rest_of}

-- ---- what holds in the bytes of a marking

keep_same : (f g : ℕ → Bool) (b c : ℕ) → ((i : ℕ) → b ≤ i → i < b + c → f i ≡ g i) → keep f (count b c) ≡ keep g (count b c)
keep_same f g b zero h = refl
keep_same f g b (suc c) h = rw (h b (omega arith) (omega arith), keep_same f g (suc b) c (λ i p q. h i (omega arith) (omega arith)))

pub held_bytes : (c : ℕ) (m : Marking) → held_in (bytes c m) ≡ holding m 0 c
unfolding held_in holding marking
held_bytes c m =
    rw (length_bytes c m)
    (keep_same (λ b. eqb (get_or (bytes c m) b 0) 1) m 0 c (λ i p q. ap (λ (x : ℕ). eqb x 1) (bytes_at c m i (omega arith)) ∙ bit_one (m i)))

-- ---- the text from each place on

module _ (n : Net) (r w end : List ℕ) where
  pub over_text : (f : ℕ) (l : List ℕ) → text_from f n r w end l Over ≡ []
  unfolding text_from
  over_text zero l = refl
  over_text (suc f) l = over_text f l

  last_text : (f : ℕ) (l : List ℕ) → text_from (suc f) n r w end l Last ≡ newline ∷ []
  unfolding text_from
  last_text f l = ap (λ (t : List ℕ). newline ∷ t) (over_text f l)

  more_on : (f : ℕ) (l : List ℕ) (from : ℕ) → text_from (suc f) n r w end l (More from) ≡ more_piece end from ++ text_from f n r w end l (more_from (length end) (next_of end from))
  unfolding text_from
  more_on f l from = refl

  abbrev rest : ℕ → List ℕ
  rest from = commas (holding (marking end) from (length end - from))

  more_text : (f : ℕ) (l : List ℕ) (from : ℕ) → (length end - from) + 2 ≤ f → text_from f n r w end l (more_from (length end) from) ≡ rest from ++ (newline ∷ [])
  more_text zero l from few = absurd (omega arith)
  more_text (suc f) l from few = go (dec_le (length end) from) (λ h. more_text f l (next_of end from) (omega arith))
    where
      go : Dec (length end ≤ from) → (from < length end → text_from f n r w end l (more_from (length end) (next_of end from)) ≡ rest (next_of end from) ++ (newline ∷ []))
          → text_from (suc f) n r w end l (more_from (length end) from) ≡ rest from ++ (newline ∷ [])
      go (yes h) next = rw (past_more (length end) from h, no_more (marking end) from (length end) h) (last_text f l)
      go (no h) next =
          let below : from < length end = omega arith in
          ap (text_from (suc f) n r w end l) (at_more (length end) from below) ∙ more_on f l from
          ∙ ap (λ (t : List ℕ). more_piece end from ++ t) (next below) ∙ sym (append_assoc (more_piece end from) (rest (next_of end from)) (newline ∷ []))
          ∙ ap (λ (t : List ℕ). t ++ (newline ∷ [])) (sym (parted end from (omega arith)))

  end_on : (f : ℕ) (l : List ℕ) → text_from (suc f) n r w end l End ≡ (end_words ++ first_piece (held_in end)) ++ text_from f n r w end l (more_from (length end) (first_in end + 1))
  unfolding text_from
  end_on f l = refl

  end_text : (f : ℕ) (l : List ℕ) → length end + 2 ≤ f → text_from (suc f) n r w end l End ≡ end_line (held_in end)
  unfolding end_line
  end_text f l few =
      end_on f l ∙ ap (λ (t : List ℕ). (end_words ++ first_piece (held_in end)) ++ t) (more_text f l (first_in end + 1) (omega arith))
      ∙ sym (append_assoc (end_words ++ first_piece (held_in end)) (rest (first_in end + 1)) (newline ∷ []))
      ∙ ap (λ (t : List ℕ). t ++ (newline ∷ []))
      (append_assoc end_words (first_piece (held_in end)) (rest (first_in end + 1)) ∙ ap (λ (t : List ℕ). end_words ++ t) (list_parts end (first_in end) refl))

  -- A step that goes: its line, and what is left.
  step_on : (f : ℕ) (l : List ℕ) (k : ℕ) → text_from (suc f) n r w end l (Step k) ≡ step_text r w (fired n l (get_or r k 0)) k ++ text_from f n r w end (fired n l (get_or r k 0)) (step_from (length r) (k + 1))
  unfolding text_from
  step_on f l k = refl

  start_on : (f : ℕ) (l : List ℕ) → text_from (suc f) n r w end l Start ≡ start_line (held_in l) ++ text_from f n r w end l (step_from (length r) 0)
  unfolding text_from
  start_on f l = refl

  lines_on : (k : ℕ) (m : Marking) (e u : ℕ) (q v : List ℕ)
      → step_lines n k m (e ∷ q) (u ∷ v) ≡ step_line k e u (holding (fire n m e) 0 n.conditions) ++ step_lines n (suc k) (fire n m e) q v
  unfolding step_lines
  lines_on k m e u q v = refl

  no_lines : (k : ℕ) (m : Marking) (v : List ℕ) → step_lines n k m [] v ≡ []
  unfolding step_lines
  no_lines k m v = refl

  module _ (sound : Sound n) (beside : length w ≡ length r) where
    goes : (l : List ℕ) (e : ℕ) → T (can n (marking l) e) → fired n l e ≡ bytes (length l) (fire n (marking l) e)
    unfolding fired
    goes l e c = rw (can_none n (marking l) e c)

    steps_text : (f : ℕ) (l : List ℕ) (k : ℕ) → length l ≡ n.conditions → T (runs n (marking l) (drop k r)) → (length r - k) + length end + 3 ≤ f
        → text_from f n r w end l (step_from (length r) k) ≡ step_lines n k (marking l) (drop k r) (drop k w) ++ end_line (held_in end)
    steps_text zero l k long t few = absurd (omega arith)
    steps_text (suc f) l k long t few = go (dec_le (length r) k) (λ l' long' t' h. steps_text f l' (suc k) long' t' (omega arith))
      where
        go : Dec (length r ≤ k)
            → ((l' : List ℕ) → length l' ≡ n.conditions → T (runs n (marking l') (drop (suc k) r)) → k < length r
            → text_from f n r w end l' (step_from (length r) (suc k)) ≡ step_lines n (suc k) (marking l') (drop (suc k) r) (drop (suc k) w) ++ end_line (held_in end))
            → text_from (suc f) n r w end l (step_from (length r) k) ≡ step_lines n k (marking l) (drop k r) (drop k w) ++ end_line (held_in end)
        go (yes h) next =
            rw (past_steps (length r) k h, drop_of_length-le r h, no_lines k (marking l) (drop k w)) (end_text f l (omega arith))
        go (no h) next =
            let below : k < length r = omega arith in
            let e : ℕ = get_or r k 0 in
            let first = drop-cons r k 0 below in
            let beside_first = drop-cons w k 0 (omega (arith, beside)) in
            let plays = subst (λ (q : List ℕ). T (runs n (marking l) q)) first t in
            let c = runs_first n (marking l) e (drop (suc k) r) plays in
            let new : List ℕ = bytes (length l) (fire n (marking l) e) in
            let told : marking new ≡ fire n (marking l) e = fired_marking n sound l e (omega (arith, long)) c in
            let held : held_in new ≡ holding (fire n (marking l) e) 0 n.conditions = held_bytes (length l) (fire n (marking l) e) ∙ ap (holding (fire n (marking l) e) 0) long in
            let left = next new (length_bytes (length l) (fire n (marking l) e) ∙ long)
            (subst (λ (m : Marking). T (runs n m (drop (suc k) r))) (sym told) (runs_rest n (marking l) e (drop (suc k) r) plays)) below in
            ap (text_from (suc f) n r w end l) (at_step (length r) k below) ∙ step_on f l k
            ∙ ap (λ (x : List ℕ). step_text r w x k ++ text_from f n r w end x (step_from (length r) (k + 1))) (goes l e c)
            ∙ ap (λ (j : ℕ). step_text r w new k ++ text_from f n r w end new (step_from (length r) j)) (add-one k)
            ∙ ap (λ (t : List ℕ). step_text r w new k ++ t) left
            ∙ ap (λ (x : List ℕ). step_line k e (get_or w k 0) x ++ (step_lines n (suc k) (marking new) (drop (suc k) r) (drop (suc k) w) ++ end_line (held_in end))) held
            ∙ ap (λ (m : Marking). step_line k e (get_or w k 0) (holding (fire n (marking l) e) 0 n.conditions) ++ (step_lines n (suc k) m (drop (suc k) r) (drop (suc k) w) ++ end_line (held_in end))) told
            ∙ sym (append_assoc (step_line k e (get_or w k 0) (holding (fire n (marking l) e) 0 n.conditions)) (step_lines n (suc k) (fire n (marking l) e) (drop (suc k) r) (drop (suc k) w)) (end_line (held_in end)))
            ∙ ap (λ (t : List ℕ). t ++ end_line (held_in end))
            (sym (lines_on k (marking l) e (get_or w k 0) (drop (suc k) r) (drop (suc k) w))
            ∙ ap (λ (q : List ℕ). step_lines n k (marking l) q (get_or w k 0 ∷ drop (suc k) w)) (sym first)
            ∙ ap (step_lines n k (marking l) (drop k r)) (sym beside_first))

    -- From the start on it is the start, the steps and the unfolded end.
    pub start_text : (m : Marking) → T (runs n (begin n) r) → end ≡ bytes (basic n).conditions m
        → rest_of n r w end (bytes n.conditions (begin n)) Start
        ≡ start_line (holding (begin n) 0 n.conditions) ++ step_lines n 0 (begin n) r w ++ end_line (holding m 0 (basic n).conditions)
    unfolding rest_of
    start_text m t ended =
        let l : List ℕ = bytes n.conditions (begin n) in
        let told : marking l ≡ begin n = begun_marking n sound n.conditions (omega arith) in
        let enough : left_at (length r) end Start ≡ suc (length r + length end + 4) = omega arith in
        ap (λ (f : ℕ). text_from f n r w end l Start) enough
        ∙ start_on (length r + length end + 4) l
        ∙ ap (λ (t : List ℕ). start_line (held_in l) ++ t)
        (steps_text (length r + length end + 4) l 0 (length_bytes n.conditions (begin n)) (subst (λ (x : Marking). T (runs n x r)) (sym told) t) (omega arith))
        ∙ ap (λ (x : List ℕ). start_line x ++ (step_lines n 0 (marking l) r w ++ end_line (held_in end))) (held_bytes n.conditions (begin n))
        ∙ ap (λ (x : Marking). start_line (holding (begin n) 0 n.conditions) ++ (step_lines n 0 x r w ++ end_line (held_in end))) told
        ∙ ap (λ (x : List ℕ). start_line (holding (begin n) 0 n.conditions) ++ (step_lines n 0 (begin n) r w ++ end_line x)) (ap held_in ended ∙ held_bytes (basic n).conditions m)
        ∙ sym (append_assoc (start_line (holding (begin n) 0 n.conditions)) (step_lines n 0 (begin n) r w) (end_line (holding m 0 (basic n).conditions)))
