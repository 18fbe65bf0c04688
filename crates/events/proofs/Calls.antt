-- The event and markers behind a number once the table is laid out, in the words of the model.
use Prim.Native.Nat.{ℕ, ◌+◌, ◌≤◌, ◌<◌}
use native.Mathlib.Omega.{arith}
use mathlib.Core.Path.{◌≡◌, sym, ap, ◌∙◌}
use mathlib.Core.List.{List}
use mathlib.Core.Bool.{true, false}
use lib.Dec.{T, ltb}
use lib.ListN.{length, length-map}
use Rattle.lists.specs.Lists.{mem, sum, keep}
use Rattle.lists.proofs.Bools.{and_left}
use Rattle.lists.proofs.Members.{mem_keep}
use Rattle.words.specs.Words.{words}
use Rattle.model.specs.Runs.{Marker}
use Rattle.model.specs.Unfolding.{UnfoldedEvent, markers, reads, origin, basic}
use Rattle.model.specs.Numbering.{ways, digits, size, event_count}
use Rattle.refusal.specs.Answer.{Judged, refused_at}
use Rattle.std.specs.Prelude.{Result, Ok, Err}
use Rattle.refusal.specs.declared.Refusal.{Refusal}
use Rattle.refusal.proofs.Chain.{need_passes, need_refuses}
use Rattle.table.specs.Walk.{offset_of}
use Rattle.table.specs.Decoded.{net_of}
use Rattle.tally.specs.Having.{list_part}
use Rattle.tally.proofs.Events.{list_read, list_inside}
use Rattle.layout.specs.Unfolds.{unfolding_of}
use Rattle.events.specs.declared.Colour.{Colour}
use Rattle.events.specs.declared.EventOrigin.{EventOrigin}
use Rattle.events.specs.Colours.{no_colour, push_all}
use Rattle.unfolding.specs.Numbers.{Within, Owner, choices_of}
use Rattle.events.specs.Numbers.{Picking}
use Rattle.events.specs.Answers.{origin_if, origin_judged, origin_of, origin_answer}
use Rattle.unfolding.proofs.Owners.{before_few}
use Rattle.unfolding.proofs.Numbered.{choices_at, events_basic, origin_is, origin_low}
use Rattle.events.proofs.Codes.{count_all}
use borrow.Author.Tests.{le-ltb}

-- ---- an event of a table that is laid out

module _ (s ms : List ℕ) (events : ℕ) (w : Within s ms events) (e at : ℕ) (h : e < (net_of s).events) (q : at ≡ offset_of s e) (l : List ℕ) (p : l ≡ list_part false s at) where
  list_is : words l ≡ (net_of s).preconditions e
  list_is = rw (p, q) (list_read s e h false)

  pub choices_are : choices_of s (words l) ≡ choices_at (net_of s) e
  unfolding reads
  choices_are = rw list_is

  pub inside : (b : ℕ) → T (mem b (words l)) → b < 256
  inside b t = list_inside s e h false b (rw list_is at t)

  pub size_is : size (net_of s) e ≡ ways (choices_of s (words l))
  unfolding size
  size_is = ap (λ (m : List (List Marker)). ways m) (sym choices_are)

  pub room_first : length (choices_of s (words l)) ≤ 16
  unfolding reads
  room_first =
      let few : length (keep (net_of s).persistent (words l)) ≤ 16 = rw list_is (w.marked.limits.few_persistent e h) in
      omega (arith, length-map (keep (net_of s).persistent (words l)) (markers (net_of s)))

  pub picking_first : (j rest weight : ℕ) → Owner s j e at rest weight → Picking s ms events (words l) weight rest
  picking_first j rest weight o =
      record {
        within = w;
        inside = λ b t. inside b (and_left (mem b (words l)) ((net_of s).persistent b) (rw mem_keep at t));
        whole = o.whole ∙ size_is;
        limit = omega (arith, o.whole, before_few s ms events w e h);
        below = o.below;
      }

-- ---- the event and markers behind a number

module _ (s : List ℕ) (j : ℕ) where
  pub origin_refused : {r : Judged} → r ≡ origin_judged s j → {x : Refusal} → r ≡ Err x → Err x ≡ origin_of s j
  unfolding origin_of
  origin_refused e t = sym (ap (λ (a : Judged). origin_if a (origin (net_of s) j)) (sym e ∙ t))

  module _ (u : (own : Judged) → unfolding_of s own ≡ own) where
    pub origin_past : event_count (net_of s) ≤ j → refused_at 10 0 ≡ origin_of s j
    unfolding origin_of origin_judged
    origin_past h =
        let t : origin_judged s j ≡ refused_at 10 0
        = u _ ∙ need_refuses 10 0 (Ok (length (origin (net_of s) j).colour)) (le-ltb j (basic (net_of s)).events (omega (arith, events_basic (net_of s)))) in
        sym (ap (λ (a : Judged). origin_if a (origin (net_of s) j)) t)

    pub origin_found : (e rest : ℕ) → e < (net_of s).events → rest < size (net_of s) e → sum (size (net_of s)) e + rest ≡ j → (mss : List (List Marker)) → mss ≡ choices_at (net_of s) e
        → (c : Colour) → c ≡ push_all no_colour (digits mss rest) → Ok (record { event = record { 0 = e }; colour = c }) ≡ origin_of s j
    unfolding origin_of origin_judged
    origin_found e rest h l z mss m c q =
        let x : UnfoldedEvent = record { event = e; colour = digits (choices_at (net_of s) e) rest } in
        let o : origin (net_of s) j ≡ x = ap (λ (k : ℕ). origin (net_of s) k) (sym z) ∙ origin_is (net_of s) e rest h l in
        let low : ltb j (basic (net_of s)).events ≡ true = ap (λ (k : ℕ). ltb k (basic (net_of s)).events) (sym z) ∙ origin_low (net_of s) e rest h l in
        let t : origin_judged s j ≡ Ok (length (origin (net_of s) j).colour) = u _ ∙ need_passes 10 0 low in
        let d : c ≡ push_all no_colour x.colour = q ∙ ap (λ (k : List (List Marker)). push_all no_colour (digits k rest)) m in
        ap {B = Result EventOrigin Refusal} (λ (y : Colour). Ok (record { event = record { 0 = e }; colour = y })) d ∙ sym (ap (λ (a : Judged). origin_if a (origin (net_of s) j)) t ∙ ap (λ (y : UnfoldedEvent). origin_if (Ok (length y.colour)) y) o)

-- a fine origin tells as many markers as it has
pub origin_many : (x : UnfoldedEvent) → origin_answer (origin_if (Ok (length x.colour)) x) ≡ Ok (length x.colour)
origin_many x = ap Ok (count_all no_colour x.colour ∙ omega arith)
