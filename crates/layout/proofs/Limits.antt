-- How the prefix of every call is answered: what each test of it tells of the model's refusals 13 and 14.
use Prim.Native.Nat.{ℕ, ◌≤◌, ◌<◌}
use native.Mathlib.Omega.{arith}
use mathlib.Core.Path.{◌≡◌, refl, sym, ap, ◌∙◌, subst}
use mathlib.Core.List.{List}
use mathlib.Core.Bool.{true, false}
use mathlib.Core.Option.{Option, none, some}
use lib.ListN.{get_or}
use borrow.Author.Tests.{le-leb, lt-leb}
use Rattle.model.specs.Net.{Net}
use Rattle.model.specs.Numbering.{size, width, condition_count, event_count}
use Rattle.model.specs.Across.{Refusal, other, most_unfolded, within, lowest_idle, idle_or_over, unfolding_refused}
use Rattle.refusal.specs.declared.Refusal as declared
use Rattle.refusal.specs.Answer.{Judged, refused_at, and_then}
use Rattle.std.specs.Prelude.{Ok, Err}
use Rattle.refusal.proofs.Chain.{never_both, then_fine}
use Rattle.records.specs.Records.{conditions}
use Rattle.table.specs.Walk.{judge_of}
use Rattle.table.specs.Decoded.{net_of}
use Rattle.table.specs.Links.{refused_or}
use Rattle.table.proofs.Decoded.{net_judged, events_are_all, conditions_are_all}
use Rattle.table.proofs.Sound.{tabled}
use Rattle.tally.specs.Having.{Tally}
use Rattle.colours.specs.Colours.{flagged}
use Rattle.layout.specs.Counts.{capped_count, idle_or, events_of, width_at}
use Rattle.layout.specs.Unfolds.{unfolding_of}
use Rattle.layout.specs.Laid.{Sums, Counted}
use Rattle.layout.proofs.Counts.{sum_same, sum_capped, sum_capped_low, width_read}

-- ---- the prefix, by what is known of the table

pub table_refused : (s : List ℕ) (own : Judged) {r : Judged} {x : declared.Refusal} → r ≡ judge_of s → r ≡ Err x → r ≡ unfolding_of s own
unfolding unfolding_of
table_refused s own e t = t ∙ simp (sym e ∙ t)

module _ (s : List ℕ) (own : Judged) (k : ℕ) (j : judge_of s ≡ Ok k) where
  unfolding_is : (o : Option Refusal) → unfolding_refused (net_of s) ≡ o → unfolding_of s own ≡ refused_or o own
  unfolding unfolding_of
  unfolding_is o e = ap (λ (x : Judged). and_then x (λ _. refused_or (unfolding_refused (net_of s)) own)) j ∙ ap (λ (x : Option Refusal). refused_or x own) e

  idle_or_lem : (o : Option ℕ) → lowest_idle (net_of s) ≡ o → unfolding_refused (net_of s) ≡ idle_or_over o (within (net_of s))
  unfolding unfolding_refused
  idle_or_lem o e = ap (λ (x : Option ℕ). idle_or_over x (within (net_of s))) e

  events_are : (o : Option ℕ) → lowest_idle (net_of s) ≡ o → events_of (net_of s) ≡ idle_or o (Ok (capped_count (net_of s)))
  unfolding events_of
  events_are o e = ap (λ (x : Option ℕ). idle_or x (Ok (capped_count (net_of s)))) e

  -- 13
  pub idle_refused : {r : Judged} {x : declared.Refusal} → r ≡ events_of (net_of s) → r ≡ Err x → r ≡ unfolding_of s own
  idle_refused {r} {x} e t = go (lowest_idle (net_of s)) refl
    where
      go : (o : Option ℕ) → lowest_idle (net_of s) ≡ o → r ≡ unfolding_of s own
      go (some i) q = e ∙ events_are (some i) q ∙ sym (unfolding_is (some (other 13 i)) (idle_or_lem (some i) q))
      go none q = never_both (sym (events_are none q) ∙ sym e ∙ t)

  -- a fine answer found no event that touches nothing
  pub all_touch : {r : Judged} {total : ℕ} → r ≡ events_of (net_of s) → r ≡ Ok total → (lowest_idle (net_of s) ≡ none) × (total ≡ capped_count (net_of s))
  all_touch {r} {total} e t = go (lowest_idle (net_of s)) refl
    where
      go : (o : Option ℕ) → lowest_idle (net_of s) ≡ o → (lowest_idle (net_of s) ≡ none) × (total ≡ capped_count (net_of s))
      go (some i) q = never_both (sym (sym (events_are (some i) q) ∙ sym e ∙ t))
      go none q = (q, let z : Ok (capped_count (net_of s)) ≡ Ok total = sym (events_are none q) ∙ sym e ∙ t in cc)

  module _ (q : lowest_idle (net_of s) ≡ none) where
    over : within (net_of s) ≡ false → refused_at 14 0 ≡ unfolding_of s own
    over w = sym (unfolding_is (some (other 14 0)) (idle_or_lem none q ∙ ap (idle_or_over none) w))

    -- 14 by the conditions, and by the events
    pub conditions_over : most_unfolded < condition_count (net_of s) → refused_at 14 0 ≡ unfolding_of s own
    unfolding within
    conditions_over h = over (rw (lt-leb (condition_count (net_of s)) most_unfolded h))

    pub events_over : condition_count (net_of s) ≤ most_unfolded → most_unfolded < capped_count (net_of s) → refused_at 14 0 ≡ unfolding_of s own
    unfolding within capped_count event_count
    events_over h l =
        over (rw (le-leb (condition_count (net_of s)) most_unfolded h)
        (lt-leb (event_count (net_of s)) most_unfolded (omega (arith, sum_capped_low (size (net_of s)) (net_of s).events))))

    -- neither
    pub goes_on : condition_count (net_of s) ≤ most_unfolded → event_count (net_of s) ≤ most_unfolded → unfolding_of s own ≡ own
    unfolding within
    goes_on h l =
        let w : within (net_of s) ≡ true = rw (le-leb (condition_count (net_of s)) most_unfolded h, le-leb (event_count (net_of s)) most_unfolded l) in
        unfolding_is none (idle_or_lem none q ∙ ap (idle_or_over none) w)

pub count_whole : (n : Net) → capped_count n ≤ most_unfolded → capped_count n ≡ event_count n
unfolding capped_count event_count
count_whole n h = sum_capped (size n) n.events h

-- ---- what is laid out

module _ (s : List ℕ) (k : ℕ) (j : judge_of s ≡ Ok k) where
  pub flags_are : (b : ℕ) → flagged s b ≡ (net_of s).persistent b
  flags_are b = sym (ap (λ (n : Net). n.persistent b) (net_judged s (Ok k) j))

  pub counted : (ms us : List ℕ) → Tally (net_of s) true 1 k ms → Tally (net_of s) false 0 k us → Counted s ms us
  counted ms us m u =
      record {
        marked =
            record {
              limits = tabled s k j;
              flags = flags_are;
              marks = subst (λ (x : ℕ). Tally (net_of s) true 1 x ms) (events_are_all s k j) m;
            };
        uses = subst (λ (x : ℕ). Tally (net_of s) false 0 x us) (events_are_all s k j) u;
      }

  -- the sums of a table are those of its net
  pub sums_read : (ms us bases : List ℕ) → Counted s ms us → Sums (width_at s ms us) (conditions s) bases → Sums (width (net_of s)) (net_of s).conditions bases
  sums_read ms us bases c t =
      let most = c.marked.limits.few_conditions in
      record {
        size = t.size;
        at = λ b h. t.at b (omega (arith, conditions_are_all s k j)) ∙ sum_same (width_at s ms us) (width (net_of s)) b (λ i l. width_read s ms us c i (omega arith));
      }

  pub count_read : (bases : List ℕ) → Sums (width (net_of s)) (net_of s).conditions bases → get_or bases (conditions s) 0 ≡ condition_count (net_of s)
  unfolding condition_count
  count_read bases t = rw (conditions_are_all s k j) (t.at (net_of s).conditions (omega arith))

-- ---- how a call goes on after its table was laid out

passed : (j : Judged) (o : Option Refusal) (own : Judged) (k : ℕ) {x : declared.Refusal} → and_then j (λ _. refused_or o (Ok k)) ≡ Err x
    → and_then j (λ _. refused_or o (Ok k)) ≡ and_then j (λ _. refused_or o own)
passed (Err y) o own k e = refl
passed (Ok n) none own k e = never_both e
passed (Ok n) (some y) own k e = refl

went : (j : Judged) (o : Option Refusal) (own : Judged) (k m : ℕ) → and_then j (λ _. refused_or o (Ok k)) ≡ Ok m → (and_then j (λ _. refused_or o own) ≡ own) × (m ≡ k)
went (Err y) o own k m e = never_both (sym e)
went (Ok n) none own k m e = (refl, cc)
went (Ok n) (some y) own k m e = never_both (sym e)

module _ (s : List ℕ) (own : Judged) (k : ℕ) {r : Judged} (e : r ≡ unfolding_of s (Ok k)) where
  pub unfolds_passed : {x : declared.Refusal} → r ≡ Err x → r ≡ unfolding_of s own
  unfolding unfolding_of
  unfolds_passed t = e ∙ passed (judge_of s) (unfolding_refused (net_of s)) own k (sym e ∙ t)

  pub unfolds_on : {m : ℕ} → r ≡ Ok m → (unfolding_of s own ≡ own) × (m ≡ k)
  unfolding unfolding_of
  unfolds_on {m} t = went (judge_of s) (unfolding_refused (net_of s)) own k m (sym e ∙ t)

  -- the table was judged
  pub unfolds_judged : {m : ℕ} → r ≡ Ok m → (j : ℕ) × (judge_of s ≡ Ok j)
  unfolding unfolding_of
  unfolds_judged {m} t = let q = then_fine (judge_of s) (λ _. refused_or (unfolding_refused (net_of s)) (Ok k)) m (sym e ∙ t) in (q.0, q.1)
