-- One range more of an unfolded marking: the bytes that a condition has of its own, and the copies that an event marks.
use Prim.Native.Nat.{ℕ, ◌+◌, ◌*◌, ◌≤◌, ◌<◌}
use native.Mathlib.Omega.{arith}
use native.Mathlib.Decide.{ℕ_discrete}
use mathlib.Core.Path.{◌≡◌, refl, sym, ◌∙◌, ap, subst}
use mathlib.Core.Bool.{Bool, true, false, ◌&&◌, cond, and-true}
use mathlib.Core.Option.{some}
use mathlib.Core.List.{List}
use lib.Dec.{T, eqb, ltb, ltb→lt}
use lib.ListN.{length, get_or, get_elem?}
use borrow.Author.Tests.{lt-ltb}
use Rattle.lists.specs.Lists.{mem, index, sum}
use Rattle.lists.proofs.Bools.{is_true, T_of, not-true}
use Rattle.lists.proofs.Places.{at_lt}
use Rattle.lists.proofs.Products.{place_most}
use Rattle.model.specs.Net.{Net, Marking, begin}
use Rattle.model.specs.Lent.{bit, marking}
use Rattle.model.specs.Runs.{at_start, by_event}
use Rattle.model.specs.Unfolding.{same_marker, UnfoldedCondition, ordinary, copy, markers, users, unfolded_conditions, basic}
use Rattle.model.specs.Numbering.{width, condition_count}
use Rattle.model.proofs.Unfolded.{start_marks, event_marks}
use Rattle.model.proofs.Counts.{marker_at_lem, count_conditions, ordinary_from}
use Rattle.refusal.specs.Answer.{Judged}
use Rattle.std.specs.Prelude.{Ok, Err}
use Rattle.words.specs.Words.{words}
use Rattle.records.specs.Records.{conditions}
use Rattle.table.specs.Walk.{judge_of, offset_of}
use Rattle.table.specs.Decoded.{net_if, net_of}
use Rattle.table.proofs.Decoded.{conditions_are_all}
use Rattle.tally.specs.Having.{list_part, Tally}
use Rattle.tally.proofs.Events.{list_read}
use Rattle.colours.specs.Colours.{flagged}
use Rattle.layout.proofs.Counts.{sum_part, uses_at}
use Rattle.copies.specs.Copies.{holds_by}
use Rattle.copies.specs.Writing.{Within, Fits, Ranged, own_count, own_holds, copies_from, copies_count, ListFits, Listed, Right, own_below, marked_below, Roomy}
use Rattle.copies.proofs.Ranges.{within_dec}
use Rattle.copies.proofs.Where.{range_of, event_place, copy_at, ordinary_place, ordinary_kind, ordinary_below, copy_kind, copy_below, copy_marker, copy_within, event_marking}

-- ---- one range more

module _ (n : Net) (m : Marking) (seen : ℕ → Bool) where
  pub right_range : (from count value : ℕ) (test next : UnfoldedCondition → Bool) (before out after : List ℕ) → Right n m seen test before out → Ranged from count value out after
      → ((k : ℕ) → Within from count k → (p : UnfoldedCondition) × (get_elem? (unfolded_conditions n) k ≡ some p) × (value ≡ bit (holds_by n m seen p)))
      → ((k : ℕ) (p : UnfoldedCondition) → get_elem? (unfolded_conditions n) k ≡ some p → T (next p) → (Within from count k → ⊥) → T (test p))
      → Right n m seen next before after
  right_range from count value test next before out after g r hit miss =
      record {
        same = r.same ∙ g.same;
        right = λ k p h t. go k p h t (within_dec from count k);
        rest = λ k c. r.outside k (λ w. let x = hit k w in omega (arith, at_lt (unfolded_conditions n) k x.1)) ∙ g.rest k c;
      }
    where
      go : (k : ℕ) (p : UnfoldedCondition) → get_elem? (unfolded_conditions n) k ≡ some p → T (next p) → Dec (Within from count k) → get_or after k 0 ≡ bit (holds_by n m seen p)
      go k p h t (yes w) =
          let x = hit k w in
          let e : x.0 ≡ p = cc (x.1, h) in
          r.inside k w ∙ x.2 ∙ ap (λ (q : UnfoldedCondition). bit (holds_by n m seen q)) e
      go k p h t (no w) = r.outside k w ∙ g.right k p h (miss k p h t w)

  -- what passes another test passes the first
  pub right_less : (test next : UnfoldedCondition → Bool) (before after : List ℕ)
      → ((k : ℕ) (p : UnfoldedCondition) → get_elem? (unfolded_conditions n) k ≡ some p → T (next p) → T (test p))
      → Right n m seen test before after → Right n m seen next before after
  right_less test next before after f g = record { same = g.same; right = λ k p h t. g.right k p h (f k p h t); rest = g.rest }

  -- nothing is asked for yet
  pub right_none : (l : List ℕ) → Right n m seen (own_below 0) l l
  right_none l = record { same = refl; right = λ k p h t. absurd (none p t); rest = λ k c. refl }
    where
      none : (p : UnfoldedCondition) → T (own_below 0 p) → ⊥
      none (ordinary b) t = omega (arith, ltb→lt b 0 t)
      none (copy b at_start v) t = omega (arith, ltb→lt b 0 t)
      none (copy b (by_event e) v) t = t

  -- all ordinary conditions and all copies that the start marks
  pub right_own : (before after : List ℕ) → Right n m seen (own_below n.conditions) before after → Right n m seen (marked_below 0) before after
  right_own before after g = right_less (own_below n.conditions) (marked_below 0) before after own g
    where
      own : (k : ℕ) (p : UnfoldedCondition) → get_elem? (unfolded_conditions n) k ≡ some p → T (marked_below 0 p) → T (own_below n.conditions p)
      own k (ordinary b) h t = T_of (ltb b n.conditions) (lt-ltb b n.conditions (ordinary_below n k b h))
      own k (copy b at_start v) h t = T_of (ltb b n.conditions) (lt-ltb b n.conditions (copy_below n k b at_start v h))
      own k (copy b (by_event e) v) h t = absurd (let z = ltb→lt e 0 t in omega arith)

  pub own_end : (b : ℕ) → b ≡ n.conditions → (before after : List ℕ) → Right n m seen (own_below b) before after → Right n m seen (own_below n.conditions) before after
  own_end b e before after r = subst (λ (x : ℕ). Right n m seen (own_below x) before after) e r

  pub marked_end : (e : ℕ) → e ≡ n.events → (before after : List ℕ) → Right n m seen (marked_below e) before after → Right n m seen (marked_below n.events) before after
  marked_end e q before after r = subst (λ (x : ℕ). Right n m seen (marked_below x) before after) q r

-- below one more, and not the last, is below
lower : (d b : ℕ) → T (ltb d (b + 1)) → (d ≡ b → ⊥) → T (ltb d b)
lower d b t f = T_of (ltb d b) (lt-ltb d b (let z = ltb→lt d (b + 1) t in omega (arith, f)))

-- ---- a table that has conditions was accepted

judged_if : (s : List ℕ) (j : Judged) → 1 ≤ (net_if j s).conditions → j ≡ Ok (net_if j s).events
judged_if s (Ok k) h = refl
judged_if s (Err refusal) h = absurd (omega arith)

pub judged : (s : List ℕ) → 1 ≤ (net_of s).conditions → judge_of s ≡ Ok (net_of s).events
unfolding net_of
judged s h = judged_if s (judge_of s) h

module _ (s us bases : List ℕ) (room : ℕ) (g : Roomy s us bases room) where
  few : (net_of s).conditions ≤ 256
  few = g.laid.counted.marked.limits.few_conditions

  flags : (b : ℕ) → flagged s b ≡ (net_of s).persistent b
  flags b = g.laid.counted.marked.flags b

  uses : (b : ℕ) → b < (net_of s).conditions → get_or us b 0 ≡ length (users (net_of s) b)
  uses b h = uses_at s g.markers us g.laid.counted b (omega (arith, few))

  base : (b : ℕ) → b < (net_of s).conditions → get_or bases b 0 ≡ sum (width (net_of s)) b
  base b h = g.laid.sums.at b (omega arith)

  -- a range of a condition's copies is among all of them
  fits_width : (b i count : ℕ) → b < (net_of s).conditions → i + count ≤ width (net_of s) b → (out : List ℕ) → length out ≡ room → Fits (get_or bases b 0 + i) count out
  unfolding basic condition_count
  fits_width b i count h w out l =
      let top = sum_part (width (net_of s)) (net_of s).conditions b h in
      let all = count_conditions (net_of s) in
      record { inside = omega (arith, base b h, g.fits); small = omega (arith, base b h, g.laid.few_conditions) }

  -- what the table counts are the net's conditions
  pub conditions_read : (w : ℕ) → w ≡ conditions s → w ≡ (net_of s).conditions
  conditions_read w e = e ∙ conditions_are_all s (net_of s).events (judged s g.laid.counted.marked.limits.some_condition)

  -- ---- the bytes that a condition has of its own

  pub own_fits : (b : ℕ) → b < (net_of s).conditions → (out : List ℕ) → length out ≡ room → Fits (get_or bases b 0) (own_count s us b) out
  unfolding width markers
  own_fits b h out l =
      let z : get_or bases b 0 + 0 ≡ get_or bases b 0 = omega arith in
      subst (λ (x : ℕ). Fits x (own_count s us b) out) z (fits_width b 0 (own_count s us b) h (rw (flags b, uses b h) (go ((net_of s).persistent b))) out l)
    where
      go : (t : Bool) → 0 + cond t (length (users (net_of s) b)) 1 ≤ cond t (length (markers (net_of s) b) * length (users (net_of s) b)) 1
      go true = omega arith
      go false = omega arith

  module _ (begun m : Marking) (started : begun ≡ begin (net_of s)) (seen : ℕ → Bool) (b : ℕ) (h : b < (net_of s).conditions)
      (before out after : List ℕ) (r : Right (net_of s) m seen (own_below b) before out) where
    own : (t : Bool) → (net_of s).persistent b ≡ t → Ranged (get_or bases b 0) (cond t (get_or us b 0) 1) (bit (cond t (begun b) (m b))) out after
        → Right (net_of s) m seen (own_below (b + 1)) before after
    unfolding holds_by markers begin
    own true p q = right_range (net_of s) m seen (get_or bases b 0) (get_or us b 0) (bit (begun b)) (own_below b) (own_below (b + 1)) before out after r q hit miss
      where
        hit : (k : ℕ) → Within (get_or bases b 0) (get_or us b 0) k
            → (p : UnfoldedCondition) × (get_elem? (unfolded_conditions (net_of s)) k ≡ some p) × (bit (begun b) ≡ bit (holds_by (net_of s) m seen p))
        hit k w =
            let x = copy_at (net_of s) b at_start h p (start_marks (net_of s) b) k (omega (arith, w.0, base b h), omega (arith, w.1, base b h, uses b h)) in
            (copy b at_start x.0, x.1, ap (λ (x : Marking). bit (x b)) started)

        miss : (k : ℕ) (x : UnfoldedCondition) → get_elem? (unfolded_conditions (net_of s)) k ≡ some x → T (own_below (b + 1) x) → (Within (get_or bases b 0) (get_or us b 0) k → ⊥) → T (own_below b x)
        miss k (ordinary d) e t f =
            lower d b t (λ z. not-true ((net_of s).persistent d) (ordinary_kind (net_of s) k d e) (T_of ((net_of s).persistent d) (ap (net_of s).persistent z ∙ p)))
        miss k (copy d at_start v) e t f =
            lower d b t (λ z.
            let w = subst (λ (y : ℕ). Within (range_of (net_of s) y at_start) (length (users (net_of s) y)) k) z (copy_within (net_of s) k d at_start v e) in
            f (omega (arith, w.0, base b h), omega (arith, w.1, base b h, uses b h)))
        miss k (copy d (by_event x) v) e t f = t
    own false p q = right_range (net_of s) m seen (get_or bases b 0) 1 (bit (m b)) (own_below b) (own_below (b + 1)) before out after r q hit miss
      where
        hit : (k : ℕ) → Within (get_or bases b 0) 1 k → (p : UnfoldedCondition) × (get_elem? (unfolded_conditions (net_of s)) k ≡ some p) × (bit (m b) ≡ bit (holds_by (net_of s) m seen p))
        hit k w =
            let z : sum (width (net_of s)) b ≡ k = omega (arith, w.0, w.1, base b h) in (
              ordinary b,
              ap (λ (x : ℕ). get_elem? (unfolded_conditions (net_of s)) x) (sym z) ∙ ordinary_from (net_of s) b h p,
              refl,
            )

        miss : (k : ℕ) (x : UnfoldedCondition) → get_elem? (unfolded_conditions (net_of s)) k ≡ some x → T (own_below (b + 1) x) → (Within (get_or bases b 0) 1 k → ⊥) → T (own_below b x)
        miss k (ordinary d) e t f =
            lower d b t (λ z.
            let y : sum (width (net_of s)) b ≡ k = ap (λ (x : ℕ). sum (width (net_of s)) x) (sym z) ∙ ordinary_place (net_of s) k d e in
            f (omega (arith, base b h), omega (arith, base b h)))
        miss k (copy d at_start v) e t f =
            lower d b t (λ z. not-true ((net_of s).persistent d) (ap (net_of s).persistent z ∙ p) (T_of ((net_of s).persistent d) (copy_kind (net_of s) k d at_start v e)))
        miss k (copy d (by_event x) v) e t f = t

    pub own_next : Ranged (get_or bases b 0) (own_count s us b) (bit (own_holds s begun m b)) out after → Right (net_of s) m seen (own_below (b + 1)) before after
    own_next q =
        own ((net_of s).persistent b) refl
        (subst (λ (t : Bool). Ranged (get_or bases b 0) (cond t (get_or us b 0) 1) (bit (cond t (begun b) (m b))) out after) (flags b) q)

  -- ---- the copies that an event marks

  module _ (e : ℕ) (h : e < (net_of s).events) (places : List ℕ) (y : Tally (net_of s) true 1 e places) where
    below : (b : ℕ) → T (mem b ((net_of s).postconditions e)) → b < (net_of s).conditions
    below b t = g.laid.counted.marked.limits.sound.post_in e b h t

    place : (b : ℕ) → T (mem b ((net_of s).postconditions e)) → get_or places b 0 ≡ index (same_marker (by_event e)) (markers (net_of s) b)
    place b t = y.at b (omega (arith, below b t, few)) ∙ sym (event_place (net_of s) b e h t)

    from_is : (b : ℕ) → T (mem b ((net_of s).postconditions e)) → copies_from us bases places b ≡ range_of (net_of s) b (by_event e)
    from_is b t = rw (base b (below b t), place b t, uses b (below b t))

    pub list_fits : (out : List ℕ) → length out ≡ room → ListFits s us bases places ((net_of s).postconditions e) out
    unfolding width
    list_fits out l b t p =
        fits_width b (get_or places b 0 * get_or us b 0) (get_or us b 0) (below b t)
        (rw (sym (flags b) ∙ p, place b t, uses b (below b t))
        (place_most (index (same_marker (by_event e)) (markers (net_of s) b)) (length (markers (net_of s) b)) (length (users (net_of s) b))
        (at_lt (markers (net_of s) b) (index (same_marker (by_event e)) (markers (net_of s) b)) (marker_at_lem (by_event e) (markers (net_of s) b) (event_marks (net_of s) b e h t))))) out l

    copied : (b k : ℕ) → T (mem b ((net_of s).postconditions e)) → Within (copies_from us bases places b) (copies_count s us b) k
        → (v : ℕ) × (get_elem? (unfolded_conditions (net_of s)) k ≡ some (copy b (by_event e) v))
    copied b k t w = go ((net_of s).persistent b) refl (subst (λ (p : Bool). Within (copies_from us bases places b) (cond p (get_or us b 0) 0) k) (flags b) w)
      where
        go : (p : Bool) → (net_of s).persistent b ≡ p → Within (copies_from us bases places b) (cond p (get_or us b 0) 0) k
            → (v : ℕ) × (get_elem? (unfolded_conditions (net_of s)) k ≡ some (copy b (by_event e) v))
        go true p w =
            copy_at (net_of s) b (by_event e) (below b t) p (event_marks (net_of s) b e h t) k
            (omega (arith, w.0, from_is b t), omega (arith, w.1, from_is b t, uses b (below b t)))
        go false p w = absurd (omega (arith, w.0, w.1))

    pub event_next : (m : Marking) (seen : ℕ → Bool) (value : ℕ) → value ≡ bit (seen e) → (before out after : List ℕ) → Right (net_of s) m seen (marked_below e) before out
        → Listed s us bases places ((net_of s).postconditions e) value out after → Right (net_of s) m seen (marked_below (e + 1)) before after
    unfolding holds_by
    event_next m seen value v before out after r l =
        record {
          same = l.same ∙ r.same;
          right = right;
          rest = λ k c. l.outside k (λ b t w. omega (arith, at_lt (unfolded_conditions (net_of s)) k (copied b k t w).1)) ∙ r.rest k c;
        }
      where
        apart : (k : ℕ) (p : UnfoldedCondition) → get_elem? (unfolded_conditions (net_of s)) k ≡ some p → ((b u : ℕ) → p ≡ copy b (by_event e) u → ⊥) → get_or after k 0 ≡ get_or out k 0
        apart k p q f = l.outside k (λ b t w. let x = copied b k t w in f b x.0 (cc (q, x.1)))

        right : (k : ℕ) (p : UnfoldedCondition) → get_elem? (unfolded_conditions (net_of s)) k ≡ some p → T (marked_below (e + 1) p) → get_or after k 0 ≡ bit (holds_by (net_of s) m seen p)
        right k (ordinary b) q t = apart k (ordinary b) q (λ d u z. let o : ◌≡◌ {A = ℕ} 0 1 = cc z in omega arith) ∙ r.right k (ordinary b) q tt
        right k (copy b at_start u) q t = apart k (copy b at_start u) q (λ d u z. let o : ◌≡◌ {A = ℕ} 0 1 = cc z in omega arith) ∙ r.right k (copy b at_start u) q tt
        right k (copy b (by_event x) u) q t = go (ℕ_discrete x e)
          where
            go : Dec (x ≡ e) → get_or after k 0 ≡ bit (seen x && mem b ((net_of s).postconditions x))
            go (no f) =
                apart k (copy b (by_event x) u) q (λ d u z. f (cc z)) ∙ r.right k (copy b (by_event x) u) q (lower x e t f)
            go (yes z) =
                subst (λ (y : ℕ). get_elem? (unfolded_conditions (net_of s)) k ≡ some (copy b (by_event y) u) → get_or after k 0 ≡ bit (seen y && mem b ((net_of s).postconditions y))) (sym z) here q
              where
                here : get_elem? (unfolded_conditions (net_of s)) k ≡ some (copy b (by_event e) u) → get_or after k 0 ≡ bit (seen e && mem b ((net_of s).postconditions e))
                here q =
                    let t = (event_marking (net_of s) k b e (copy_marker (net_of s) k b (by_event e) u q)).1 in
                    let w = copy_within (net_of s) k b (by_event e) u q in
                    let c : copies_count s us b ≡ length (users (net_of s) b) = rw (flags b ∙ copy_kind (net_of s) k b (by_event e) u q) (uses b (below b t)) in
                    l.inside b k t (omega (arith, w.0, from_is b t), omega (arith, w.1, from_is b t, c)) ∙ v ∙ rw (is_true (mem b ((net_of s).postconditions e)) t, and-true (seen e))

    -- a walk over the events that is at this one
    module _ (at : ℕ) (l : List ℕ) (o : at ≡ offset_of s e) (p : l ≡ list_part true s at) where
      list_is : (net_of s).postconditions e ≡ words l
      list_is = sym (rw (p, o) (list_read s e h true))

      pub walk_fits : (out : List ℕ) → length out ≡ room → ListFits s us bases places (words l) out
      walk_fits out q = subst (λ (x : List ℕ). ListFits s us bases places x out) list_is (list_fits out q)

      pub walk_event : (m : Marking) (seen : List ℕ) (byte : ℕ) → byte ≡ get_or seen e 0 → (before out after : List ℕ)
          → Right (net_of s) m (marking seen) (marked_below e) before out → Listed s us bases places (words l) (bit (eqb byte 1)) out after
          → Right (net_of s) m (marking seen) (marked_below (e + 1)) before after
      unfolding marking
      walk_event m seen byte v before out after r q =
          event_next m (marking seen) (bit (eqb byte 1)) (ap (λ (x : ℕ). bit (eqb x 1)) v) before out after r
          (subst (λ (x : List ℕ). Listed s us bases places x (bit (eqb byte 1)) out after) (sym list_is) q)
