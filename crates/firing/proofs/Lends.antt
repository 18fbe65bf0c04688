-- A table laid out with a lent unfolded marking, and what the call answers after it.
use mathlib.Core.Path.{◌≡◌, sym, ◌∙◌, ap}
use mathlib.Core.List.{List}
use Prim.Native.Nat.{ℕ, ◌+◌, ◌≤◌, ◌<◌}
use lib.ListN.{length, get_or}
use native.Mathlib.Omega.{arith}
use borrow.Author.Tests.{le-ltb}
use Rattle.lists.specs.Lists.{sum}
use Rattle.model.specs.Net.{fire, stopping}
use Rattle.model.specs.Unfolding.{basic}
use Rattle.model.specs.Across.{of_unfolding}
use Rattle.model.specs.Numbering.{size, event_count}
use Rattle.model.specs.Lent.{bytes, marking}
use Rattle.refusal.specs.Answer.{Judged, refused_at}
use Rattle.std.specs.Prelude.{Ok, Err}
use Rattle.refusal.specs.declared.Refusal.{Refusal}
use Rattle.refusal.proofs.Chain.{never_both}
use Rattle.records.specs.Records.{conditions}
use Rattle.table.specs.Decoded.{net_of}
use Rattle.table.specs.Links.{refused_or}
use Rattle.layout.specs.Unfolds.{unfolding_of}
use Rattle.layout.specs.Laid.{LaidOut}
use Rattle.layout.proofs.Limits.{unfolds_passed, unfolds_on, unfolds_judged}
use Rattle.unfolding.specs.Numbers.{Owner}
use Rattle.unfolding.proofs.Calls.{conditions_count}
use Rattle.unfolding.proofs.Numbered.{events_basic}
use Rattle.game.specs.Lent.{first_above, lent}
use Rattle.game.specs.Calls.{firing_stopped, leaves}
use Rattle.step.specs.Steps.{stepped}
use Rattle.step.proofs.Bytes.{lent_of}
use Rattle.game.proofs.Marked.{wrong_length, byte_above, all_right, none_above}
use Rattle.stopping.specs.Unfolded.{Step, step_of, answered_of}
use Rattle.firing.specs.Calls.{unfolded_fire_of, unfolded_fired_of}
use Rattle.firing.specs.Steps.{Lending}
use Rattle.firing.proofs.Fired.{stops_past, answers, leaves_so}

-- ---- the table and the marking

module _ (s m : List ℕ) (r : Judged) (ms us bs : List ℕ) (o : LaidOut s r ms us bs) where
  pub lend_refused : (x : Refusal) → r ≡ Err x → Lending s m r ms us bs
  lend_refused x t =
      record {
        refuses = λ own y e. unfolds_passed s (lent (basic (net_of s)).conditions m own) (net_of s).events o.answer e;
        goes = λ own k e. never_both (sym e ∙ t);
        laid = λ k e. never_both (sym e ∙ t);
        lents = λ k e. never_both (sym e ∙ t);
        long = λ k e. never_both (sym e ∙ t);
        events = λ k e. never_both (sym e ∙ t);
      }

  module _ (k : ℕ) (t : r ≡ Ok k) where
    on : (own : Judged) → unfolding_of s own ≡ own
    on own = (unfolds_on s own (net_of s).events o.answer t).0

    pub count_is : (w c : ℕ) → w ≡ conditions s → c ≡ get_or bs w 0 → c ≡ (basic (net_of s)).conditions
    count_is w c iw ic =
        let j = unfolds_judged s (Ok 0) (net_of s).events o.answer t in
        ic ∙ ap (λ (x : ℕ). get_or bs x 0) iw ∙ conditions_count s ms us bs j.0 (o.laid k t) j.1

    refusing : (p : ℕ) (a : Judged) → a ≡ refused_at 18 p → ((own : Judged) → refused_at 18 p ≡ lent (basic (net_of s)).conditions m own) → Lending s m a ms us bs
    refusing p a e f =
        record {
          refuses = λ own y z. e ∙ f own ∙ sym (on (lent (basic (net_of s)).conditions m own));
          goes = λ own k z. never_both (sym z ∙ e);
          laid = λ k z. never_both (sym z ∙ e);
          lents = λ k z. never_both (sym z ∙ e);
          long = λ k z. never_both (sym z ∙ e);
          events = λ k z. never_both (sym z ∙ e);
        }

    module _ (c : ℕ) (ic : c ≡ (basic (net_of s)).conditions) where
      pub lend_long : (a : Judged) → a ≡ refused_at 18 c → (length m ≡ c → ⊥) → Lending s m a ms us bs
      lend_long a e h =
          refusing c a e (λ own. ap (refused_at 18) ic ∙ wrong_length (basic (net_of s)).conditions m own (λ q. h (q ∙ sym ic)))

      pub lend_above : (a : Judged) (p : ℕ) → a ≡ refused_at 18 p → p ≡ first_above m → length m ≡ c → p < length m → Lending s m a ms us bs
      lend_above a p e ip h l =
          refusing p a e (λ own. ap (refused_at 18) ip ∙ byte_above (basic (net_of s)).conditions m own (h ∙ ic) (omega arith))

      pub lend_fine : (p : ℕ) → p ≡ first_above m → length m ≡ c → length m ≤ p → Lending s m r ms us bs
      lend_fine p ip h l =
          record {
            refuses = λ own y e. never_both (sym t ∙ e);
            goes = λ own i e. on (lent (basic (net_of s)).conditions m own) ∙ sym (all_right (basic (net_of s)).conditions m own (h ∙ ic) (omega arith));
            laid = λ i e. o.laid i e;
            lents = λ i e. lent_of m (none_above m (omega arith));
            long = λ i e. h ∙ ic;
            events = λ i e. (unfolds_on s (Ok 0) (net_of s).events o.answer e).1;
          }

-- ---- the call

module _ (s m : List ℕ) (j : ℕ) (r : Judged) (ms us bs : List ℕ) (o : Lending s m r ms us bs) where
  pub fire_refused : (x : Refusal) → r ≡ Err x → (r ≡ unfolded_fire_of s m j) × (m ≡ unfolded_fired_of s m j)
  unfolding unfolded_fire_of unfolded_fired_of
  fire_refused x t =
      let own = refused_or (firing_stopped of_unfolding (stopping (basic (net_of s)) (marking m) j)) (Ok (basic (net_of s)).conditions) in
      let a = o.refuses own x t in
      (a, sym (ap (λ (y : Judged). leaves y (bytes (basic (net_of s)).conditions (fire (basic (net_of s)) (marking m) j)) m) (sym a ∙ t)))

  module _ (k : ℕ) (t : r ≡ Ok k) where
    is_own : unfolded_fire_of s m j ≡ refused_or (firing_stopped of_unfolding (stopping (basic (net_of s)) (marking m) j)) (Ok (basic (net_of s)).conditions)
    unfolding unfolded_fire_of
    is_own = o.goes _ k t

    pub fire_past : event_count (net_of s) ≤ j → (a : Judged) → a ≡ refused_at 10 0 → (a ≡ unfolded_fire_of s m j) × (m ≡ unfolded_fired_of s m j)
    unfolding unfolded_fired_of
    fire_past h a e =
        let p = stops_past (net_of s) j (marking m) (le-ltb j (basic (net_of s)).events (omega (arith, events_basic (net_of s)))) in
        let q : unfolded_fire_of s m j ≡ refused_at 10 0 = is_own ∙ rw p in
        (e ∙ sym q, sym (ap (λ (y : Judged). leaves y (bytes (basic (net_of s)).conditions (fire (basic (net_of s)) (marking m) j)) m) q))

    module _ {e at rest weight : ℕ} (w : Owner s j e at rest weight) where
      pub fire_answers : (x : Step) (c : ℕ) (a : Judged) (after : List ℕ) → c ≡ length m
          → x ≡ step_of (stopping (basic (net_of s)) (marking m) (sum (size (net_of s)) e + rest))
          → after ≡ stepped (stopping (basic (net_of s)) (marking m) (sum (size (net_of s)) e + rest)) (bytes (basic (net_of s)).conditions (fire (basic (net_of s)) (marking m) (sum (size (net_of s)) e + rest))) m
          → a ≡ answered_of x c → (a ≡ unfolded_fire_of s m j) × (after ≡ unfolded_fired_of s m j)
      unfolding unfolded_fired_of
      fire_answers x c a after ic ix ia e =
          let i = o.long k t in
          let told : a ≡ refused_or (firing_stopped of_unfolding (stopping (basic (net_of s)) (marking m) j)) (Ok (basic (net_of s)).conditions)
          = e ∙ rw (ix, ic ∙ i, w.left) (answers (stopping (basic (net_of s)) (marking m) j) (basic (net_of s)).conditions) in
          let new = bytes (basic (net_of s)).conditions (fire (basic (net_of s)) (marking m) j) in
          (told ∙ sym is_own, ia ∙ rw w.left (leaves_so (stopping (basic (net_of s)) (marking m) j) (basic (net_of s)).conditions new m) ∙ ap (λ (y : Judged). leaves y new m) (sym is_own))
