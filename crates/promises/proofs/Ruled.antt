-- The calls of the game go by the rule that the table asks for: the paper's, or the old one.
use mathlib.Core.Path.{◌≡◌, refl, sym, ap, ◌∙◌}
use mathlib.Core.Bool.{true, false}
use mathlib.Core.Logic.{◌↔◌}
use mathlib.Core.Option.{Option, none, some}
use mathlib.Core.List.{List}
use Prim.Native.Nat.{ℕ, ◌<◌}
use native.Mathlib.Omega.{arith}
use lib.Dec.{T, lt→ltb}
use lib.ListN.{length}
use Rattle.lists.specs.Lists.{mem}
use Rattle.lists.proofs.Bools.{is_false}
use Rattle.model.specs.Net.{Net, Sound, Marking, concession, fire, Stop, stopping}
use Rattle.model.specs.Across.{Whose, of_table}
use Rattle.model.specs.Lent.{bytes, marking}
use Rattle.model.specs.Paper.{Set, holding, Concession, OldConcession, Fires}
use Rattle.model.proofs.Firing.{none_can, can_none, can_concession, can_of, fire_none}
use Rattle.model.proofs.Lent.{marking_bytes, tidy_marking}
use Rattle.model.proofs.Rule.{concession_paper, fires_paper, concession_old, fires_old}
use Rattle.refusal.specs.Answer.{Judged, and_then}
use Rattle.std.specs.Prelude.{Ok}
use Rattle.refusal.proofs.Chain.{never_both}
use Rattle.records.specs.Records.{old_rule}
use Rattle.table.specs.Decoded.{net_of}
use Rattle.table.specs.Links.{refused_or}
use Rattle.table.proofs.Decoded.{events_are_all, conditions_are_all}
use Rattle.table.proofs.Ruled.{rule_read}
use Rattle.table.proofs.Sound.{accepted_sound}
use Rattle.game.specs.Calls.{on_marking, leaves, firing_stopped, firing_of, fired_of}
use Rattle.game.proofs.Marked.{on_then, on_fine}
use Rattle.promises.specs.Ruled.{ByRule}

-- an answer is fine exactly if nothing stops
pub unstopped : (w : Whose) (o : Option Stop) (v : ℕ) → (refused_or (firing_stopped w o) (Ok v) ≡ Ok v) ↔ (o ≡ none)
unstopped w none v = (λ _. refl, λ _. refl)
unstopped w (some x) v = (λ h. never_both (sym h), λ h. absurd (let z : ◌≡◌ {A = ℕ} 0 1 = cc in omega arith))

-- what firing leaves, written as bytes and read again, is itself
pub fired_again : (n : Net) → Sound n → (m : List ℕ) → length m ≡ n.conditions → (e : ℕ) → e < n.events
    → marking (bytes n.conditions (fire n (marking m) e)) ≡ fire n (marking m) e
fired_again n sound m long e low =
    marking_bytes n.conditions (fire n (marking m) e) (λ b l.
    fire_none n (marking m) e b (is_false (mem b (n.postconditions e)) (λ i. absurd (omega (arith, sound.post_in e b low i))))
    (tidy_marking m b (omega (arith, long))))

module _ (s m : List ℕ) (e n : ℕ) (h : on_marking s m Ok ≡ Ok n) (low : e < n) where
  -- what is known of a table and a marking that are accepted
  count : n ≡ (net_of s).events
  count = let k = on_fine s m Ok n h in let q : k.events ≡ n = cc k.goes in sym q ∙ events_are_all s k.events k.judged

  long : length m ≡ (net_of s).conditions
  long = let k = on_fine s m Ok n h in k.long ∙ conditions_are_all s k.events k.judged

  rule : (b : ℕ) → (net_of s).old b ≡ old_rule s
  rule b = let k = on_fine s m Ok n h in rule_read s k.events k.judged b

  -- an asking is fine exactly if the event has concession
  asked : (v : ℕ) → (firing_of s m e v ≡ Ok v) ↔ T (concession (net_of s) (marking m) e)
  unfolding firing_of
  asked v =
      let o = stopping (net_of s) (marking m) e in
      let told : firing_of s m e v ≡ refused_or (firing_stopped of_table o) (Ok v)
      = sym (on_then s m Ok (λ _. refused_or (firing_stopped of_table o) (Ok v))) ∙ ap (λ (j : Judged). and_then j (λ _. refused_or (firing_stopped of_table o) (Ok v))) h in (
        λ q. can_concession (net_of s) (marking m) e (none_can (net_of s) (marking m) e ((unstopped of_table o v).0 (sym told ∙ q))),
        λ t. told ∙ (unstopped of_table o v).1 (can_none (net_of s) (marking m) e (can_of (net_of s) (marking m) e (lt→ltb e (net_of s).events (omega (arith, count))) t)),
      )

  -- what firing leaves is the model's marking
  left : T (concession (net_of s) (marking m) e) → marking (fired_of s m e) ≡ fire (net_of s) (marking m) e
  unfolding fired_of
  left t =
      let c = (net_of s).conditions in
      ap (λ (j : Judged). marking (leaves j (bytes c (fire (net_of s) (marking m) e)) m)) ((asked c).1 t)
      ∙ fired_again (net_of s) sound m long e (omega (arith, count))
    where
      sound : Sound (net_of s)
      sound = let k = on_fine s m Ok n h in accepted_sound s k.events k.judged

  -- the promise, for a rule that is the model's
  by_rule : (Rule : Net → Set ℕ → ℕ → Type 0) → T (concession (net_of s) (marking m) e) ↔ Rule (net_of s) (holding (marking m)) e
      → ((k : Marking) → (T (concession (net_of s) (marking m) e) × (k ≡ fire (net_of s) (marking m) e)) ↔ Fires Rule (net_of s) (holding (marking m)) e (holding k))
      → ByRule Rule s m e
  by_rule Rule is fires =
      record {
        tested = (λ q. is.0 ((asked 0).0 q), λ r. (asked 0).1 (is.1 r));
        worked = (λ q. is.0 ((asked (net_of s).conditions).0 q), λ r. (asked (net_of s).conditions).1 (is.1 r));
        fired = λ r. (fires (marking (fired_of s m e))).0 (is.1 r, left (is.1 r));
      }

  -- A table that asks for no rule, or for rule 0, is played by the paper's.
  pub by_paper : old_rule s ≡ false → ByRule Concession s m e
  by_paper q =
      by_rule Concession (concession_paper (net_of s) (marking m) e (λ b. rule b ∙ q)) (fires_paper (net_of s) (marking m) e (λ b. rule b ∙ q))

  -- One that asks for rule 1 is played by the old one.
  pub by_old : old_rule s ≡ true → ByRule OldConcession s m e
  by_old q =
      by_rule OldConcession (concession_old (net_of s) (marking m) e (λ b. rule b ∙ q)) (fires_old (net_of s) (marking m) e (λ b. rule b ∙ q))
