-- The calls on the unfolding by the paper's sets: its numbers are those of B' and E', its lists and its start those of the paper.
use mathlib.Core.Path.{◌≡◌, refl, sym, ap, ◌∙◌, subst, ap₂}
use mathlib.Core.Bool.{Bool, true, false}
use mathlib.Core.Logic.{◌↔◌}
use mathlib.Core.Option.{some}
use mathlib.Core.List.{List}
use Prim.Native.Nat.{ℕ, ◌<◌}
use native.Mathlib.Omega.{arith}
use borrow.Author.Tests.{lt-ltb}
use lib.Dec.{T, ltb, ltb→lt}
use lib.ListN.{length, take, get_elem?}
use Rattle.lists.specs.Lists.{ascending, ◌∈◌}
use Rattle.lists.proofs.Bools.{T_of}
use Rattle.lists.proofs.Members.{mem_in, in_mem}
use Rattle.lists.proofs.Places.{place_of, in_at, at_lt, at_some, at_get_d}
use Rattle.model.specs.Net.{Net, Sound, Marking, begin}
use Rattle.model.specs.Runs.{Marker}
use Rattle.model.specs.Lent.{bytes, marking}
use Rattle.model.specs.Unfolding.{UnfoldedCondition, ordinary, unfolded_conditions, UnfoldedEvent, unfolded_events, reads, picked, origin, basic}
use Rattle.model.specs.Numbering.{number}
use Rattle.model.specs.Paper.{◌≐◌, holding, E', start', chosen, named}
use Rattle.model.proofs.Numbers.{number_at}
use Rattle.model.proofs.Counts.{condition_back}
use Rattle.model.proofs.Unfolded.{origin_in}
use Rattle.model.proofs.Lent.{length_bytes, begun_marking}
use Rattle.model.proofs.Sets.{conditions_paper, colours_paper, colours_all, colours_one, pre_paper}
use Rattle.model.proofs.Sets.{post_paper, start_paper, lists_ascend, Names, named_one, basic_sound}
use Rattle.refusal.specs.Answer.{Judged, need, fitting}
use Rattle.std.specs.Prelude.{Result, Ok}
use Rattle.refusal.specs.declared.Refusal.{Refusal}
use Rattle.refusal.proofs.Chain.{ok_is, need_passes, need_fine, fitting_fine, written_front}
use Rattle.table.specs.Decoded.{net_of}
use Rattle.table.specs.Tabled.{Tabled}
use Rattle.table.proofs.Sound.{tabled}
use Rattle.tally.specs.Having.{list_of}
use Rattle.layout.specs.Unfolds.{unfolding_of}
use Rattle.layout.proofs.Limits.{unfolds_judged}
use Rattle.conditions.specs.Origins.{condition_at, condition_judged, told, told_if, condition_origin_of, origin_value}
use Rattle.events.specs.declared.Colour.{Colour}
use Rattle.events.specs.declared.EventOrigin.{EventOrigin}
use Rattle.events.specs.Colours.{colour_of}
use Rattle.events.specs.Answers.{origin_if, origin_judged, origin_of, origin_answer, origin_event, origin_colour}
use Rattle.event_numbers.specs.Answers.{number_of}
use Rattle.unfolded_lists.specs.Calls.{unfolded_list_of, unfolded_listed_of}
use Rattle.starting.specs.Calls.{unfolded_start_of, unfolded_started_of}
use Rattle.inverse.proofs.Prefix.{prefix_passed}
use Rattle.inverse.proofs.Conditions.{value_told, origin_numbered, numbered_origin}
use Rattle.inverse.proofs.Colours.{colour_told}
use Rattle.inverse.proofs.Numbers.{number_origin, origin_number_lem}
use Rattle.inverse.proofs.Events.{few_markers, event_back, event_forth}
use Rattle.promises.specs.Paper.{condition_count_of, event_count_of, StandsAt, standing, ConditionsNumbered, event_at}
use Rattle.promises.proofs.Told.{event_answer}
use Rattle.promises.specs.Paper.{colour_at, ToldAt, EventsNumbered, side', Listed, Started}

-- ---- sets that have the same members

pub through : {A B C : Type 0} → A ↔ B → B ↔ C → A ↔ C
through f g = (λ a. g.0 (f.0 a), λ c. f.1 (g.1 c))

-- a choice of markers that is another one's is one of Δ if that is
same_choice : (n : Net) (e : ℕ) (c d : ℕ → Marker → Type 0) → ((b : ℕ) (k : Marker) → c b k ↔ d b k) → E' n e c → E' n e d
same_choice n e c d is h =
    let f = h.1 in (
      h.0,
      record {
        chooses = λ b i. let k = f.chooses b i in (k.0, (is b k.0).0 k.1);
        one = λ b k q x y. f.one b k q ((is b k).1 x) ((is b q).1 y);
        from = λ b k x. f.from b k ((is b k).1 x);
      },
    )

-- ---- a table that unfolds

module _ (s : List ℕ) (u : (own : Judged) → unfolding_of s own ≡ own) where
  tabled_net : Tabled (net_of s)
  tabled_net = let j = unfolds_judged s (Ok 0) 0 (sym (u (Ok 0))) refl in tabled s j.0 j.1

  -- ---- conditions

  -- what stands at a number is the member of the list at that place
  pub stands_at : (i : ℕ) (p : UnfoldedCondition) → StandsAt s i p → get_elem? (unfolded_conditions (net_of s)) i ≡ some p
  unfolding condition_origin_of condition_judged condition_at need basic
  stands_at i p h =
      let own = need (ltb i (basic (net_of s)).conditions) 10 0 (Ok i) in
      go (ltb i (basic (net_of s)).conditions) refl (ap (λ (x : Judged). origin_value (told_if x q)) (sym (u own)) ∙ h)
    where
      q : UnfoldedCondition
      q = condition_at (net_of s) i

      go : (t : Bool) → ltb i (basic (net_of s)).conditions ≡ t → origin_value (told_if (need t 10 0 (Ok i)) q) ≡ some p
          → get_elem? (unfolded_conditions (net_of s)) i ≡ some p
      go false e v = absurd (let z : ◌≡◌ {A = ℕ} 0 1 = cc v in omega arith)
      go true e v =
          let low = ltb→lt i (length (unfolded_conditions (net_of s))) (T_of (ltb i (basic (net_of s)).conditions) e) in
          at_some (unfolded_conditions (net_of s)) i (ordinary 0) low ∙ sym (value_told q) ∙ v

  pub at_stands : (i : ℕ) (p : UnfoldedCondition) → get_elem? (unfolded_conditions (net_of s)) i ≡ some p → StandsAt s i p
  unfolding condition_origin_of condition_judged condition_at basic
  at_stands i p h =
      let low = lt-ltb i (length (unfolded_conditions (net_of s))) (at_lt (unfolded_conditions (net_of s)) i h) in
      let fine : condition_judged s i ≡ Ok i = u (need (ltb i (basic (net_of s)).conditions) 10 0 (Ok i)) ∙ need_passes 10 0 low in
      ap (λ (x : Judged). origin_value (told_if x (condition_at (net_of s) i))) fine
      ∙ ap (λ (x : UnfoldedCondition). origin_value (Ok (told x))) (at_get_d (unfolded_conditions (net_of s)) i (ordinary 0) h)
      ∙ value_told p

  -- a set of numbers names what stands at them
  standing_named : (l : List ℕ) → standing s (λ i. i ∈ l) ≐ named (net_of s) l
  standing_named l p = (λ h. (h.0, h.1, stands_at h.0 p h.2), λ h. (h.0, h.1, at_stands h.0 p h.2))

  pub conditions_numbered : ConditionsNumbered s (basic (net_of s)).conditions
  unfolding basic
  conditions_numbered =
      let all = unfolded_conditions (net_of s) in
      record {
        each = λ i h. let a = at_some all i (ordinary 0) h in (_, at_stands i _ a);
        within = λ i p h. let a = stands_at i p h in (at_lt all i a, (conditions_paper (net_of s) p).0 (in_at all i a));
        all = λ p b. let a = place_of ((conditions_paper (net_of s) p).1 b) in (a.0, at_stands a.0 p a.1);
        one = λ i k p h g. sym (condition_back (net_of s) i p (stands_at i p h)) ∙ condition_back (net_of s) k p (stands_at k p g);
        ordinary_number_lem = λ b i. (
          λ e. ap origin_value (numbered_origin s (ordinary b) i e) ∙ value_told (ordinary b),
          λ v. origin_numbered s i (ordinary b) v,
        );
        copy_number_lem = λ b m v i. (
          λ e. ap origin_value (numbered_origin s _ i e) ∙ value_told _,
          λ h. origin_numbered s i _ h,
        );
      }

  -- ---- events

  -- what is told of a number is the unfolded event at it
  module _ (j : ℕ) (low : ltb j (basic (net_of s)).events ≡ true) where
    there : origin (net_of s) j ∈ unfolded_events (net_of s)
    there = origin_in (net_of s) j (T_of (ltb j (basic (net_of s)).events) low)

    told_whole : origin_of s j ≡ origin_if (Ok (length (origin (net_of s) j).colour)) (origin (net_of s) j)
    unfolding origin_of origin_judged
    told_whole =
        ap (λ (x : Judged). origin_if x (origin (net_of s) j))
        (u (need (ltb j (basic (net_of s)).events) 10 0 (Ok (length (origin (net_of s) j).colour))) ∙ need_passes 10 0 low)

    told_event : event_at s j ≡ (origin (net_of s) j).event
    told_event = ap origin_event told_whole

    told_colour : colour_of (origin_colour (origin_of s j)) ≡ (origin (net_of s) j).colour
    told_colour =
        ap (λ (x : Result EventOrigin Refusal). colour_of (origin_colour x)) told_whole
        ∙ colour_told (origin (net_of s) j).colour (few_markers (net_of s) tabled_net (origin (net_of s) j) there)

    told_chosen : colour_at s j ≡ chosen (net_of s) (origin (net_of s) j)
    told_chosen = ap₂ (λ (e : ℕ) (c : List Marker). λ b k. T (picked (reads (net_of s) e) c b k)) told_event told_colour

    told_is : E' (net_of s) (event_at s j) (colour_at s j)
    told_is =
        let x = origin (net_of s) j in
        subst (λ (c : ℕ → Marker → Type 0). E' (net_of s) (event_at s j) c) (sym told_chosen)
        (subst (λ (e : ℕ). E' (net_of s) e (chosen (net_of s) x)) (sym told_event) (colours_paper (net_of s) tabled_net.sound x there))

  -- a number of which something is told is that of an unfolded event
  low_of : (j k : ℕ) → origin_answer (origin_of s j) ≡ Ok k → ltb j (basic (net_of s)).events ≡ true
  unfolding origin_judged
  low_of j k e =
      let own = need (ltb j (basic (net_of s)).events) 10 0 (Ok (length (origin (net_of s) j).colour)) in
      let fine : own ≡ Ok k = sym (u own) ∙ sym (event_answer s j) ∙ e in
      (need_fine (ltb j (basic (net_of s)).events) 10 0 k (Ok (length (origin (net_of s) j).colour)) fine).0

  events_numbered : EventsNumbered s (basic (net_of s)).events
  unfolding basic number_of
  events_numbered =
      record {
        each = λ j h. told_here j (lt-ltb j (basic (net_of s)).events h);
        within = λ j e d t.
            let low = low_of j t.count t.answer in (
              ltb→lt j (basic (net_of s)).events (T_of (ltb j (basic (net_of s)).events) low),
              subst (λ (x : ℕ). E' (net_of s) x d) t.event (same_choice (net_of s) (event_at s j) (colour_at s j) d t.same (told_is j low)),
            );
        all = λ e d f. let x = colours_all (net_of s) e d f in (number (net_of s) x.0, found x.0 x.1 e d x.2 x.3);
        one = one;
        number = λ e d j. (
          λ h.
              let x = event_forth s e d j h in
              let low = low_of j d.count x.0 in
              (ltb→lt j (basic (net_of s)).events (T_of (ltb j (basic (net_of s)).events) low), x.1, x.2),
          λ h. given e d j h.0 h.1 h.2,
        );
      }
    where
      told_here : (j : ℕ) → ltb j (basic (net_of s)).events ≡ true → ToldAt s j (event_at s j) (colour_at s j)
      told_here j low =
          record { count = _; answer = ap origin_answer (told_whole j low); event = refl; same = λ b k. (λ x. x, λ x. x) }

      given : (e : ℕ) (d : Colour) (j : ℕ) → j < (basic (net_of s)).events → event_at s j ≡ e → colour_of (origin_colour (origin_of s j)) ≡ colour_of d
          → number_of s e d ≡ Ok j
      given e d j h q r =
          let t = told_here j (lt-ltb j (basic (net_of s)).events h) in
          let at : ℕ → List Marker → ℕ = λ x c. number (net_of s) (record { event = x; colour = c }) in
          ap₂ (λ (x : ℕ) (c : List Marker). unfolding_of s (need (ltb (at x c) (basic (net_of s)).events) 10 0 (Ok (at x c)))) (sym q) (sym r)
          ∙ event_back s j t.count t.answer

      found : (x : UnfoldedEvent) → x ∈ unfolded_events (net_of s) → (e : ℕ) (d : ℕ → Marker → Type 0) → x.event ≡ e
          → ((b : ℕ) (k : Marker) → chosen (net_of s) x b k ↔ d b k) → ToldAt s (number (net_of s) x) e d
      found x i e d q is =
          let j = number (net_of s) x in
          let at = number_at (net_of s) x i in
          let low = lt-ltb j (length (unfolded_events (net_of s))) (at_lt (unfolded_events (net_of s)) j at) in
          let here : origin (net_of s) j ≡ x = origin_number_lem (net_of s) x i in
          record {
            count = _;
            answer = ap origin_answer (told_whole j low);
            event = told_event j low ∙ ap (λ (y : UnfoldedEvent). y.event) here ∙ q;
            same = λ b k. subst (λ (c : ℕ → Marker → Type 0). c b k ↔ d b k) (sym (told_chosen j low ∙ ap (chosen (net_of s)) here)) (is b k);
          }

      one : (j i e : ℕ) (d : ℕ → Marker → Type 0) → ToldAt s j e d → ToldAt s i e d → j ≡ i
      one j i e d t v =
          let a = low_of j t.count t.answer in
          let z = low_of i v.count v.answer in
          let x = origin (net_of s) j in
          let y = origin (net_of s) i in
          let events : x.event ≡ y.event = sym (told_event j a) ∙ t.event ∙ sym v.event ∙ told_event i z in
          let choices : (b : ℕ) (k : Marker) → chosen (net_of s) x b k ↔ chosen (net_of s) y b k
          = λ b k. subst (λ (c : ℕ → Marker → Type 0). c b k ↔ chosen (net_of s) y b k) (told_chosen j a)
          (subst (λ (c : ℕ → Marker → Type 0). colour_at s j b k ↔ c b k) (told_chosen i z)
          (through (t.same b k) (λ w. (v.same b k).1 w, λ w. (v.same b k).0 w))) in
          let same = colours_one (net_of s) tabled_net.sound x y (there j a) (there i z) events choices in
          sym (number_origin (net_of s) j a) ∙ ap (number (net_of s)) same ∙ number_origin (net_of s) i z

-- Where the unfolding is counted, its numbers are those of B' and of E'.
pub conditions_paper_numbered : (s : List ℕ) (c : ℕ) → condition_count_of s ≡ Ok c → ConditionsNumbered s c
conditions_paper_numbered s c h =
    let o = prefix_passed s (Ok (basic (net_of s)).conditions) c h in
    subst (ConditionsNumbered s) (ok_is o.1) (conditions_numbered s o.0)

pub events_paper_numbered : (s : List ℕ) (c : ℕ) → event_count_of s ≡ Ok c → EventsNumbered s c
events_paper_numbered s c h =
    let o = prefix_passed s (Ok (basic (net_of s)).events) c h in
    subst (EventsNumbered s) (ok_is o.1) (events_numbered s o.0)

-- ---- the lists of an unfolded event, and the start

module _ (n : Net) (j : ℕ) where
  list_ascends : (post : Bool) → T (ascending (list_of (basic n) post j))
  list_ascends false = (lists_ascend n j).0
  list_ascends true = (lists_ascend n j).1

  list_names : (post : Bool) → Names n (list_of (basic n) post j)
  list_names false = (named_one n j).0
  list_names true = (named_one n j).1

  list_side : Sound n → T (ltb j (basic n).events) → (post : Bool)
      → named n (list_of (basic n) post j) ≐ side' n post (origin n j).event (chosen n (origin n j))
  list_side d low false = pre_paper n d j low
  list_side d low true = post_paper n d j low

-- The lists of an unfolded event are pre' and post' of what stands behind its number.
pub lists_paper : (s : List ℕ) → ((own : Judged) → unfolding_of s own ≡ own) → (post : Bool) (j : ℕ) → ltb j (basic (net_of s)).events ≡ true
    → Listed s post j (list_of (basic (net_of s)) post j)
lists_paper s u post j low =
    let n = net_of s in
    let l = list_of (basic n) post j in
    let is = list_side n j (tabled_net s u).sound (T_of (ltb j (basic n).events) low) post in
    record {
      ascends = list_ascends n j post;
      each = λ i h. let r = list_names n j post i h in (r.0, at_stands s u i r.0 r.1);
      stands = subst (λ (c : ℕ → Marker → Type 0). standing s (λ i. i ∈ l) ≐ side' n post (event_at s j) c) (sym (told_chosen s u j low))
          (subst (λ (e : ℕ). standing s (λ i. i ∈ l) ≐ side' n post e (chosen n (origin n j))) (sym (told_event s u j low))
          (λ p. through (standing_named s u l p) (is p)));
      played = refl;
    }

-- So is what is written of them.
pub list_paper : (s : List ℕ) (post : Bool) (j : ℕ) (out : List ℕ) (c : ℕ) → unfolded_list_of s post j (length out) ≡ Ok c
    → Listed s post j (take c (unfolded_listed_of s post j out))
unfolding unfolded_list_of unfolded_listed_of
list_paper s post j out c h =
    let n = net_of s in
    let l = list_of (basic n) post j in
    let o = prefix_passed s (need (ltb j (basic n).events) 10 0 (fitting (length l) (length out))) c h in
    let f = need_fine (ltb j (basic n).events) 10 0 c (fitting (length l) (length out)) o.1 in
    let size = (fitting_fine (length l) (length out) c f.1).0 in
    let front : take c (unfolded_listed_of s post j out) ≡ l
    = ap (λ (x : ℕ). take x (unfolded_listed_of s post j out)) size ∙ written_front (unfolded_list_of s post j (length out)) c l out h in
    subst (Listed s post j) (sym front) (lists_paper s o.0 post j f.0)

-- What is written of the unfolded start is that of the paper.
pub started_paper : (s out : List ℕ) (c : ℕ) → unfolded_start_of s (length out) ≡ Ok c → Started s (take c (unfolded_started_of s out))
unfolding unfolded_start_of unfolded_started_of begin
started_paper s out c h =
    let n = net_of s in
    let all = bytes (basic n).conditions (begin (basic n)) in
    let o = prefix_passed s (fitting (basic n).conditions (length out)) c h in
    let size : c ≡ length all = (fitting_fine (basic n).conditions (length out) c o.1).0 ∙ sym (length_bytes (basic n).conditions (begin (basic n))) in
    let front : take c (unfolded_started_of s out) ≡ all
    = ap (λ (x : ℕ). take x (unfolded_started_of s out)) size ∙ written_front (unfolded_start_of s (length out)) c all out h in
    let same : marking (take c (unfolded_started_of s out)) ≡ begin (basic n)
    = ap marking front ∙ begun_marking (basic n) (basic_sound n) (basic n).conditions (omega arith) in
    record {
      stands = subst (λ (m : Marking). standing s (holding m) ≐ start' n) (sym same) (begun s o.0);
      played = same;
    }
  where
    begun : (s : List ℕ) → ((own : Judged) → unfolding_of s own ≡ own) → standing s (holding (begin (basic (net_of s)))) ≐ start' (net_of s)
    begun s u p =
        let l = (basic (net_of s)).start in
        let there : standing s (holding (begin (basic (net_of s)))) p ↔ standing s (λ i. i ∈ l) p
        = (λ h. (h.0, mem_in h.0 l h.1, h.2), λ h. (h.0, in_mem h.1, h.2)) in
        through there (through (standing_named s u l p) (start_paper (net_of s) (tabled_net s u).sound p))
