-- The rules that are executed are the paper's and the old one: concession and firing on sets of conditions, in a table and in the unfolded
-- net, each shown for any set of conditions that does not block.
use mathlib.Core.Path.{◌≡◌, refl, sym, ◌∙◌, subst, fun_ext}
use mathlib.Core.Bool.{true, false, not, ◌&&◌, ◌||◌}
use mathlib.Core.Logic.{inl, inr, ◌↔◌}
use mathlib.Core.Option.{Option, none, some}
use Prim.Native.Nat.{ℕ}
use lib.Dec.{T}
use lib.ListN.{get_elem?}
use Rattle.lists.specs.Lists.{mem}
use Rattle.lists.proofs.Bools.{is_true, not_out, not_in, not_not, iff, and_left, and_right, and_both, or_left, or_right, or_cases}
use Rattle.lists.proofs.Members.{mem_in, in_mem}
use Rattle.lists.proofs.Places.{hit, mem_places}
use Rattle.model.specs.Net.{Net, Marking, free, concession, fire}
use Rattle.model.specs.Unfolding.{UnfoldedCondition, ordinary, copy, unfolded_conditions, follows, basic}
use Rattle.model.specs.Paper.{Set, ∅, ◌∪◌, ◌∩◌, ◌∖◌, ◌⊆◌, ◌≐◌, P, pre, post, holding, Concession, OldConcession, Fires, BasicFires, MixedFires, copied}
use Rattle.model.proofs.Firing.{free_taken, free_never, free_pre, pre_holds, unblocked, concession_intro, fire_stays, fire_puts}
use Rattle.model.proofs.Unfolded.{in_pre, follows_at, free_copy}

module _ (n : Net) (m : Marking) (e : ℕ) where
  -- The rule once, for any set of conditions that is that of the free ones.
  module _ (F : Set ℕ) (is : (b : ℕ) → T (free n e b) ↔ F b) where
    contact_out : T (concession n m e) → (holding m ∖ F) ∩ post n e ≐ ∅
    contact_out t = λ b. (λ h. h.0.1 ((is b).0 (unblocked n m e t b (in_mem h.1) h.0.0)), λ z. absurd z)

    concession_in : pre n e ⊆ holding m → (holding m ∖ F) ∩ post n e ≐ ∅ → T (concession n m e)
    concession_in f c =
        concession_intro n m e (λ b i. f b (mem_in b (n.preconditions e) i))
        (λ b i p t. not_not (free n e b) (λ k. (c b).0 ((t, λ u. k ((is b).1 u)), mem_in b (n.postconditions e) i)))

  hold_out : T (concession n m e) → pre n e ⊆ holding m
  hold_out t = λ b i. pre_holds n m e t b (in_mem i)

  -- By the paper's rule a condition is free exactly if it lies in •e ∪ P, by the old one exactly if it lies in P.
  free_paper : ((b : ℕ) → n.old b ≡ false) → (b : ℕ) → T (free n e b) ↔ (pre n e ∪ P n) b
  free_paper q b =
      let r = free_taken n e b (q b) in (
        λ t. or_cases (n.persistent b) (mem b (n.preconditions e)) (subst T r t) inr (λ i. inl (mem_in b (n.preconditions e) i)),
        λ u. subst T (sym r)
            (elim u [ inl i ↦ or_right (n.persistent b) (mem b (n.preconditions e)) (in_mem i) | inr p ↦ or_left (n.persistent b) (mem b (n.preconditions e)) p ]),
      )

  free_old : ((b : ℕ) → n.old b ≡ true) → (b : ℕ) → T (free n e b) ↔ P n b
  free_old q b = let r = free_never n e b (q b) in (λ t. subst T r t, λ t. subst T (sym r) t)

  -- At rule 0 an event has concession exactly if it has that of the paper.
  pub concession_paper : ((b : ℕ) → n.old b ≡ false) → T (concession n m e) ↔ Concession n (holding m) e
  concession_paper q = (
    λ t. record { all_hold = hold_out t; no_contact = contact_out (pre n e ∪ P n) (free_paper q) t },
    λ c. concession_in (pre n e ∪ P n) (free_paper q) c.all_hold c.no_contact,
  )

  -- At rule 1 exactly if it has that of the old rule.
  pub concession_old : ((b : ℕ) → n.old b ≡ true) → T (concession n m e) ↔ OldConcession n (holding m) e
  concession_old q = (
    λ t. record { all_hold = hold_out t; no_contact = contact_out (P n) (free_old q) t },
    λ c. concession_in (P n) (free_old q) c.all_hold c.no_contact,
  )

  -- What holds after firing is (M ∖ •e) ∪ e• ∪ (M ∩ P).
  fire_paper : (b : ℕ) → T (fire n m e b) ↔ ((holding m ∖ pre n e) ∪ post n e ∪ (holding m ∩ P n)) b
  unfolding fire
  fire_paper b =
      let put = mem b (n.postconditions e) in
      let stays = n.persistent b in
      let taken = mem b (n.preconditions e) in (
        λ t. or_cases put (m b && (stays || not taken)) t (λ i. inl (inr (mem_in b (n.postconditions e) i)))
            (λ t. let h = and_left (m b) (stays || not taken) t in
            or_cases stays (not taken) (and_right (m b) (stays || not taken) t) (λ p. inr (h, p)) (λ f. inl (inl (h, λ i. not_out taken f (in_mem i))))),
        λ u. elim u [
          | inl (inl h) ↦ or_right put (m b && (stays || not taken))
              (and_both (m b) (stays || not taken) h.0 (or_right stays (not taken) (not_in taken (λ i. h.1 (mem_in b (n.preconditions e) i)))))
          | inl (inr i) ↦ fire_puts n m e b (in_mem i)
          | inr h ↦ fire_stays n m e b (is_true stays h.1) h.0
        ],
      )

  -- A marking is the one after firing exactly if it is that set.
  fired : (k : Marking) → (k ≡ fire n m e) ↔ (holding k ≐ (holding m ∖ pre n e) ∪ post n e ∪ (holding m ∩ P n))
  fired k = (
    λ q b. subst (λ (k : Marking). T (k b) ↔ ((holding m ∖ pre n e) ∪ post n e ∪ (holding m ∩ P n)) b) (sym q) (fire_paper b),
    λ r. fun_ext (λ b. iff (k b) (fire n m e b) (λ t. (fire_paper b).1 ((r b).0 t)) (λ t. (r b).1 ((fire_paper b).0 t))),
  )

  -- By whichever rule it has concession, an event fires from one marking to another exactly if it does in sets.
  fires_by : (Rule : Net → Set ℕ → ℕ → Type 0) → T (concession n m e) ↔ Rule n (holding m) e
      → (k : Marking) → (T (concession n m e) × (k ≡ fire n m e)) ↔ Fires Rule n (holding m) e (holding k)
  fires_by Rule is k = (
    λ h. record { concession = is.0 h.0; result = (fired k).0 h.1 },
    λ f. (is.1 f.concession, (fired k).1 f.result),
  )

  pub fires_paper : ((b : ℕ) → n.old b ≡ false) → (k : Marking) → (T (concession n m e) × (k ≡ fire n m e)) ↔ Fires Concession n (holding m) e (holding k)
  fires_paper q = fires_by Concession (concession_paper q)

  pub fires_old : ((b : ℕ) → n.old b ≡ true) → (k : Marking) → (T (concession n m e) × (k ≡ fire n m e)) ↔ Fires OldConcession n (holding m) e (holding k)
  fires_old q = fires_by OldConcession (concession_old q)

-- ---- the unfolded net

module _ (n : Net) (j : ℕ) where
  -- At rule 0 an unfolded condition is free exactly if it is taken.
  free_basic : ((b : ℕ) → n.old b ≡ false) → (k : ℕ) → T (free (basic n) j k) ↔ pre (basic n) j k
  unfolding basic follows
  free_basic q k =
      let r = free_taken (basic n) j k (mem_places (follows n) (unfolded_conditions n) k ∙ go (get_elem? (unfolded_conditions n) k)) in
      (λ t. mem_in k ((basic n).preconditions j) (subst T r t), λ i. subst T (sym r) (in_mem i))
    where
      go : (o : Option UnfoldedCondition) → hit (follows n) o ≡ false
      go none = refl
      go (some (ordinary b)) = q b
      go (some (copy b m u)) = refl

  -- At rule 1 exactly if it is a copy that is taken.
  free_copied : ((b : ℕ) → n.old b ≡ true) → (k : ℕ) → T (free (basic n) j k) ↔ (pre (basic n) j ∩ copied n) k
  unfolding basic follows
  free_copied q k = (
    λ t. let i = free_pre (basic n) j k refl t in let r = in_pre n j k i in (mem_in k ((basic n).preconditions j) i, go r.0 r.1 t),
    λ h. subst T (sym (free_copy n j k h.1.0 h.1.1 h.1.2 h.1.3)) (in_mem h.0),
  )
    where
      go : (p : UnfoldedCondition) → get_elem? (unfolded_conditions n) k ≡ some p → T (free (basic n) j k) → copied n k
      go (ordinary b) a t = absurd (subst T (free_never (basic n) j k (follows_at n k (ordinary b) a ∙ q b)) t)
      go (copy b m u) a t = (b, m, u, a)

  module _ (m k : Marking) where
    -- Nothing is persistent there, so that firing gives (M ∖ •e) ∪ e•.
    basic_fired : (k ≡ fire (basic n) m j) ↔ (holding k ≐ (holding m ∖ pre (basic n) j) ∪ post (basic n) j)
    unfolding basic
    basic_fired = (
      λ q b. (λ t. elim (((fired (basic n) m j k).0 q b).0 t) [ inl u ↦ u | inr h ↦ absurd h.1 ], λ u. ((fired (basic n) m j k).0 q b).1 (inl u)),
      λ r. (fired (basic n) m j k).1 (λ b. (λ t. inl ((r b).0 t), λ u. elim u [ inl v ↦ (r b).1 v | inr h ↦ absurd h.1 ])),
    )

    -- At rule 0 the unfolded net is played by the paper's rule for basic nets.
    pub unfolded_paper : ((b : ℕ) → n.old b ≡ false) → (T (concession (basic n) m j) × (k ≡ fire (basic n) m j)) ↔ BasicFires (basic n) (holding m) j (holding k)
    unfolded_paper q =
        let is = free_basic q in (
          λ h. record { all_hold = hold_out (basic n) m j h.0; no_contact = contact_out (basic n) m j (pre (basic n) j) is h.0; result = basic_fired.0 h.1 },
          λ f. (concession_in (basic n) m j (pre (basic n) j) is f.all_hold f.no_contact, basic_fired.1 f.result),
        )

    -- At rule 1 by the old one, but for the copies of persistent conditions.
    pub unfolded_old : ((b : ℕ) → n.old b ≡ true) → (T (concession (basic n) m j) × (k ≡ fire (basic n) m j)) ↔ MixedFires (copied n) (basic n) (holding m) j (holding k)
    unfolded_old q =
        let is = free_copied q in
        let F = pre (basic n) j ∩ copied n in (
          λ h. record { all_hold = hold_out (basic n) m j h.0; no_contact = contact_out (basic n) m j F is h.0; result = basic_fired.0 h.1 },
          λ f. (concession_in (basic n) m j F is f.all_hold f.no_contact, basic_fired.1 f.result),
        )
