-- How the calls answer, and what is open once a table is opened.
use Prim.Native.Nat.{ℕ, ◌+◌, ◌*◌, ◌≤◌, ◌<◌}
use mathlib.Core.Path.{refl, ◌≡◌, sym, ◌∙◌, ap, subst}
use mathlib.Core.Bool.{true, false}
use mathlib.Core.List.{List, ◌++◌}
use lib.Dec.{ltb}
use lib.ListN.{length, get_or, drop, length-append, get_or-append}
use native.Mathlib.Omega.{arith}
use borrow.Author.Tests.{lt-ltb, le-ltb}
use Rattle.lists.specs.Lists.{sum}
use Rattle.model.specs.Net.{begin}
use Rattle.model.specs.Lent.{bit, bytes}
use Rattle.model.specs.Across.{most_unfolded}
use Rattle.model.specs.Unfolding.{basic}
use Rattle.model.specs.Numbering.{size}
use Rattle.model.proofs.Lent.{length_bytes, bytes_at}
use Rattle.refusal.specs.declared.Refusal.{Refusal}
use Rattle.refusal.specs.Answer.{Judged, refused_at, value_of, need, fitting, written}
use Rattle.std.specs.Prelude.{Result, Ok, Err, IsOk}
use Rattle.refusal.proofs.Chain.{never_both, ok_is, need_passes, need_refuses, fitting_room}
use Rattle.records.specs.Records.{conditions}
use Rattle.table.specs.Decoded.{net_of}
use Rattle.layout.specs.Laid.{LaidOut}
use Rattle.layout.specs.Unfolds.{unfolding_of}
use Rattle.layout.proofs.Limits.{unfolds_on, unfolds_passed}
use Rattle.unfolding.proofs.Calls.{conditions_count, events_count}
use Rattle.unfolding.proofs.Numbered.{events_basic}
use Rattle.starting.specs.Calls.{unfolded_start_of, unfolded_started_of}
use Rattle.arcs.specs.Arcs.{exported}
use Rattle.arcs.proofs.Exported.{conditions_basic}
use Rattle.pnml.specs.declared.Element.{Element}
use Rattle.pnml.specs.Text.{text_of}
use Rattle.spots.specs.Spots.{arc_count, Unfolds}
use Rattle.spots.proofs.Spots.{unfolds_fine, before_low, all_transitions}
use Rattle.export_places.specs.declared.Place as declared
use Rattle.export_places.specs.Places.{goes_on}
use Rattle.export_places.specs.Needs.{element_at, Finds}
use Rattle.export_places.proofs.Places.{places_are, transitions_are, found_there, found_past}
use Rattle.elements.specs.declared.Opened.{Opened}
use Rattle.elements.specs.Calls.{elements_of, element_text, element_count_of, element_of, element_written_of}
use Rattle.spelling.specs.Puts.{Puts}
use Rattle.elements.specs.Needs.{Ready, events_in, Opens}
use Rattle.elements.proofs.Reading.{elements_all, text_is}

-- ---- a table laid out

module _ (s ms us bs : List ℕ) {r : Judged} (l : LaidOut s r ms us bs) (k : ℕ) (e : r ≡ Ok k) where
  pub laid_unfolds : Unfolds s ms us bs k
  laid_unfolds =
      record {
        laid = l.laid k e;
        unfolds = λ own. (unfolds_on s own (net_of s).events l.answer e).0;
        all = (unfolds_on s (Ok 0) (net_of s).events l.answer e).1;
      }

-- ---- how many elements there are

module _ (s ms us bs : List ℕ) (events : ℕ) (u : Unfolds s ms us bs events) where
  pub conditions_told : (c : ℕ) → c ≡ get_or bs (conditions s) 0 → c ≡ (basic (net_of s)).conditions
  conditions_told c q = let f = unfolds_fine s (u.unfolds (Ok 0)) in q ∙ conditions_count s ms us bs f.0 u.laid f.1

  module _ (c m a : ℕ) (p : c ≡ get_or bs (conditions s) 0) (q : m ≡ sum (size (net_of s)) events) (r : a ≡ arc_count (net_of s)) where
    pub counted_all : 2 + 2 * c + m + a ≡ length (elements_of s)
    counted_all =
        omega (arith, elements_all s, places_are (net_of s), transitions_are (net_of s), events_count (net_of s) events u.all, conditions_told c p)

    pub counted_few : (c ≤ 65535) × (m ≤ 65535) × (a ≤ 17179344900)
    counted_few = (
      omega (arith, conditions_told c p, conditions_basic (net_of s), u.laid.few_conditions),
      omega (arith, events_count (net_of s) events u.all, events_basic (net_of s), u.laid.few_events),
      omega (arith, before_low s ms us bs u.laid (exported (net_of s)).transitions, all_transitions (net_of s), u.laid.few_events),
    )

-- ---- the start put

module _ (s start : List ℕ) (u : (own : Judged) → unfolding_of s own ≡ own) (room : (basic (net_of s)).conditions ≤ length start) where
  started : unfolded_started_of s start ≡ bytes (basic (net_of s)).conditions (begin (basic (net_of s))) ++ drop (length (bytes (basic (net_of s)).conditions (begin (basic (net_of s))))) start
  unfolding unfolded_started_of unfolded_start_of
  started =
      ap (λ (a : Judged). written a (bytes (basic (net_of s)).conditions (begin (basic (net_of s)))) start)
      (u (fitting (basic (net_of s)).conditions (length start)) ∙ fitting_room (basic (net_of s)).conditions (length start) room)

  -- the start has room, so it is never refused
  pub start_fine : {r : Judged} → r ≡ unfolded_start_of s (length start) → IsOk r
  unfolding unfolded_start_of
  start_fine e = rw (e ∙ u (fitting (basic (net_of s)).conditions (length start)) ∙ fitting_room (basic (net_of s)).conditions (length start) room) refl

  pub start_at : (after : List ℕ) → after ≡ unfolded_started_of s start → (b : ℕ) → b < (basic (net_of s)).conditions → get_or after b 0 ≡ bit (begin (basic (net_of s)) b)
  start_at after q b h =
      let begun : List ℕ = bytes (basic (net_of s)).conditions (begin (basic (net_of s))) in
      ap (λ (l : List ℕ). get_or l b 0) (q ∙ started)
      ∙ get_or-append begun (drop (length begun) start) 0 b (omega (arith, length_bytes (basic (net_of s)).conditions (begin (basic (net_of s)))))
      ∙ bytes_at (basic (net_of s)).conditions (begin (basic (net_of s))) b h

  pub start_long : (after : List ℕ) → after ≡ unfolded_started_of s start → (basic (net_of s)).conditions ≤ length after
  start_long after q =
      let begun : List ℕ = bytes (basic (net_of s)).conditions (begin (basic (net_of s))) in
      omega (arith, ap (λ (l : List ℕ). length l) (q ∙ started), length-append begun (drop (length begun) start), length_bytes (basic (net_of s)).conditions (begin (basic (net_of s))))

-- ---- a table opened

pub opened_refused : (s ms us bs start : List ℕ) {answer : Judged} {x : Refusal} → LaidOut s answer ms us bs → answer ≡ Err x
    → (o : Result Opened Refusal) → o ≡ Err x → Opens s o ms us bs start
opened_refused s ms us bs start l e o z =
    record { told = ap events_in z ∙ sym e ∙ l.answer; ready = λ k q. never_both (sym q ∙ z) }

module _ (s ms us bs start after : List ℕ) {answer : Judged} (l : LaidOut s answer ms us bs) (k : ℕ) (e : answer ≡ Ok k) where
  pub opened_ready : length start ≡ most_unfolded → (c m : ℕ) → c ≡ get_or bs (conditions s) 0 → m ≡ sum (size (net_of s)) k → after ≡ unfolded_started_of s start → Ready s k c m ms us bs after
  opened_ready long c m p q z =
      let u = laid_unfolds s ms us bs l k e in
      let doubles = conditions_told s ms us bs k u c p in
      let room : (basic (net_of s)).conditions ≤ length start = omega (arith, conditions_basic (net_of s), u.laid.few_conditions) in
      record {
        numbered = record { table = u; doubles = doubles; moves = q ∙ events_count (net_of s) k u.all };
        roomy = omega (arith, start_long s start u.unfolds room after z);
        begun = λ b h. start_at s start u.unfolds room after z b (omega arith);
      }

  pub opened_start : length start ≡ most_unfolded → {r : Judged} → r ≡ unfolded_start_of s (length start) → IsOk r
  opened_start long q =
      let u = laid_unfolds s ms us bs l k e in
      let room : (basic (net_of s)).conditions ≤ length start = omega (arith, conditions_basic (net_of s), u.laid.few_conditions) in
      start_fine s start u.unfolds room q

  pub opened_fine : length start ≡ most_unfolded → (c m : ℕ) → c ≡ get_or bs (conditions s) 0 → m ≡ sum (size (net_of s)) k → after ≡ unfolded_started_of s start
      → Opens s (Ok (record { events = k; conditions = c; transitions = m })) ms us bs after
  opened_fine long c m p q z =
      record {
        told = sym e ∙ l.answer;
        ready = λ o w. subst (λ (x : Opened). Ready s x.events x.conditions x.transitions ms us bs after) (ok_is w) (opened_ready long c m p q z);
      }

-- ---- an element by its number

module _ (s ms us bs start : List ℕ) {events c m : ℕ} (h : Ready s events c m ms us bs start) (marks uses starts sizes : List ℕ) (i : ℕ) (p : declared.Place)
    (f : Finds s ms us bs marks uses starts sizes i p) where
  module _ (g : goes_on p ≡ true) (x : Element) (e : x ≡ element_at s c start starts p) where
    pub text_there : text_of c x ≡ element_text s i
    text_there = text_is s ms us bs start h marks uses starts sizes p f.stands x e ∙ ap (element_text s) (found_there i p f g).1

    pub in_answer : (r : Judged) (room : ℕ) → r ≡ fitting (length (text_of c x)) room
        → r ≡ need (ltb i (length (elements_of s))) 10 0 (fitting (length (element_text s i)) room)
    in_answer r room q =
        let below : i < length (elements_of s) = omega (arith, elements_all s, (found_there i p f g).0) in
        q ∙ ap (λ (t : List ℕ). fitting (length t) room) text_there ∙ sym (need_passes 10 0 (lt-ltb i (length (elements_of s)) below))

    pub in_after : (r : Judged) (out after : List ℕ) → after ≡ written r (text_of c x) out → after ≡ written r (element_text s i) out
    in_after r out after q = q ∙ ap (λ (t : List ℕ). written r t out) text_there

  module _ (g : goes_on p ≡ false) (r : Judged) (z : r ≡ refused_at 10 0) where
    pub past_answer : (room : ℕ) → r ≡ need (ltb i (length (elements_of s))) 10 0 (fitting (length (element_text s i)) room)
    past_answer room =
        let past : length (elements_of s) ≤ i = omega (arith, elements_all s, found_past i p f g) in
        z ∙ sym (need_refuses 10 0 (fitting (length (element_text s i)) room) (le-ltb i (length (elements_of s)) past))

    pub past_after : (out : List ℕ) → out ≡ written r (element_text s i) out
    past_after out = sym (ap (λ (a : Judged). written a (element_text s i) out) z)

-- ---- the calls

module _ (s : List ℕ) where
  pub count_refused : {r : Judged} {x : Refusal} → r ≡ unfolding_of s (Ok (net_of s).events) → r ≡ Err x → r ≡ element_count_of s
  unfolding element_count_of
  count_refused e t = unfolds_passed s (Ok (length (elements_of s))) (net_of s).events e t

  pub count_fine : ((own : Judged) → unfolding_of s own ≡ own) → (k : ℕ) → k ≡ length (elements_of s) → Ok k ≡ element_count_of s
  unfolding element_count_of
  count_fine u k e = ap Ok e ∙ sym (u (Ok (length (elements_of s))))

  module _ (i : ℕ) (out : List ℕ) where
    pub element_refused : {r : Judged} {x : Refusal} → r ≡ unfolding_of s (Ok (net_of s).events) → r ≡ Err x → r ≡ element_of s i (length out)
    unfolding element_of
    element_refused e t = unfolds_passed s (need (ltb i (length (elements_of s))) 10 0 (fitting (length (element_text s i)) (length out))) (net_of s).events e t

    pub element_kept : {r : Judged} {x : Refusal} → r ≡ element_of s i (length out) → r ≡ Err x → out ≡ element_written_of s i out
    unfolding element_written_of
    element_kept e t = sym (ap (λ (a : Judged). written a (element_text s i) out) (sym e ∙ t))

    pub element_told : ((own : Judged) → unfolding_of s own ≡ own) → (r : Judged) → r ≡ need (ltb i (length (elements_of s))) 10 0 (fitting (length (element_text s i)) (length out)) → r ≡ element_of s i (length out)
    unfolding element_of
    element_told u r e = e ∙ sym (u (need (ltb i (length (elements_of s))) 10 0 (fitting (length (element_text s i)) (length out))))

    pub element_left : (r : Judged) → r ≡ element_of s i (length out) → (after : List ℕ) → after ≡ written r (element_text s i) out → after ≡ element_written_of s i out
    unfolding element_written_of
    element_left r e after q = q ∙ ap (λ (a : Judged). written a (element_text s i) out) e

-- an element that has room is written, and its bytes are counted
pub element_put : (text out : List ℕ) (answer : Judged) (count : ℕ) (after : List ℕ) → length text ≤ length out → answer ≡ fitting (length text) (length out)
    → after ≡ written answer text out → count ≡ value_of answer → Puts text out count after
element_put text out answer count after room told left counted =
    let fine = told ∙ fitting_room (length text) (length out) room in
    record { told = counted ∙ ap value_of fine; stored = left ∙ ap (λ (a : Judged). written a text out) fine }

pub same_text : {x y out : List ℕ} {count : ℕ} {after : List ℕ} → x ≡ y → Puts x out count after → Puts y out count after
same_text {x} {y} {out} {count} {after} e p = subst (λ (t : List ℕ). Puts t out count after) e p

pub put_within : {x out : List ℕ} {count : ℕ} {after : List ℕ} → Puts x out count after → count ≤ length after
put_within {x} {out} p = omega (arith, p.told, ap length p.stored, length-append x (drop (length x) out))
