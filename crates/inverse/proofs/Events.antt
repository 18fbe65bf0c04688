-- The calls on unfolded events undo each other: what stands behind a number has that number, and the other way round.
use Prim.Native.Nat.{ℕ, suc, ◌-◌, ◌≤◌}
use native.Mathlib.Omega.{arith}
use mathlib.Core.Path.{◌≡◌, refl, sym, ap, ◌∙◌, subst}
use mathlib.Core.Bool.{true}
use mathlib.Core.List.{List, [], ◌∷◌, map}
use lib.Dec.{ltb, ltb→lt}
use lib.ListN.{length, length-map}
use Rattle.lists.specs.Lists.{count, ◌∈◌}
use Rattle.lists.proofs.Bools.{T_of}
use Rattle.lists.proofs.Members.{length_count}
use Rattle.model.specs.Net.{Net}
use Rattle.model.specs.Runs.{Marker}
use Rattle.model.specs.Unfolding.{UnfoldedEvent, markers, reads, unfolded_events, origin, basic}
use Rattle.model.specs.Numbering.{same_event, number}
use Rattle.model.proofs.Unfolded.{Each, choices_each, colour_out, origin_in}
use Rattle.model.proofs.Numbers.{same_event_eq}
use Rattle.refusal.specs.Answer.{Judged, need}
use Rattle.std.specs.Prelude.{Result, Ok, Err}
use Rattle.refusal.proofs.Chain.{need_passes, need_fine, never_both, ok_is}
use Rattle.table.specs.Decoded.{net_of}
use Rattle.table.specs.Tabled.{Tabled}
use Rattle.table.proofs.Sound.{tabled}
use Rattle.layout.specs.Unfolds.{unfolding_of}
use Rattle.layout.proofs.Limits.{unfolds_judged}
use Rattle.unfolding.proofs.Numbered.{index_found}
use Rattle.events.specs.declared.Colour.{Colour}
use Rattle.events.specs.declared.EventOrigin.{EventOrigin}
use Rattle.refusal.specs.declared.Refusal.{Refusal}
use Rattle.events.specs.Colours.{push_all, no_colour, marker_at, colour_of}
use Rattle.events.specs.Answers.{origin_if, origin_judged, origin_of, origin_answer, origin_event, origin_colour}
use Rattle.events.proofs.Calls.{origin_many}
use Rattle.event_numbers.specs.Answers.{number_of}
use Rattle.inverse.proofs.Numbers.{number_origin, origin_number_lem}
use Rattle.inverse.proofs.Prefix.{prefix_passed}
use Rattle.inverse.proofs.Colours.{colour_told}

-- an unfolded event of a table has at most sixteen markers
each_length : (c : List Marker) (mss : List (List Marker)) → Each c mss → length c ≡ length mss
each_length [] [] h = refl
each_length [] (ms ∷ mss) h = absurd h
each_length (m ∷ c) [] h = absurd h
each_length (m ∷ c) (ms ∷ mss) h = ap suc (each_length c mss h.1)

pub few_markers : (n : Net) → Tabled n → (x : UnfoldedEvent) → x ∈ unfolded_events n → length x.colour ≤ 16
few_markers n t x i =
    let o = colour_out n x i in
    let mss = map (markers n) (reads n x.event) in
    omega (arith, each_length x.colour mss (choices_each mss x.colour o.1), length-map (reads n x.event) (markers n), t.few_persistent x.event o.0)

module _ (s : List ℕ) where
  module _ (u : (own : Judged) → unfolding_of s own ≡ own) where
    tabled_net : Tabled (net_of s)
    tabled_net = let j = unfolds_judged s (Ok 0) 0 (sym (u (Ok 0))) refl in tabled s j.0 j.1

    number_fine : (e : ℕ) (c : Colour) (j : ℕ) → number (net_of s) (record { event = e; colour = colour_of c }) ≡ j
        → ltb j (basic (net_of s)).events ≡ true → number_of s e c ≡ Ok j
    unfolding number_of
    number_fine e c j q low = u _ ∙ ap (λ (x : ℕ). need (ltb x (basic (net_of s)).events) 10 0 (Ok x)) q ∙ need_passes 10 0 low

    -- an unfolded event as it is told, by the number that it stands at
    told_event : (j : ℕ) (x : UnfoldedEvent) → x ∈ unfolded_events (net_of s) → origin (net_of s) j ≡ x → ltb j (basic (net_of s)).events ≡ true
        → origin_of s j ≡ origin_if (Ok (length x.colour)) x
    unfolding origin_of origin_judged
    told_event j x i o low =
        let fine : origin_judged s j ≡ Ok (length (origin (net_of s) j).colour) = u _ ∙ need_passes 10 0 low in
        ap (λ (a : Judged). origin_if a (origin (net_of s) j)) fine ∙ ap (λ (y : UnfoldedEvent). origin_if (Ok (length y.colour)) y) o

  back_if : (j k : ℕ) (a : Judged) → origin_judged s j ≡ a → let o = origin_if a (origin (net_of s) j) in
      origin_answer o ≡ Ok k → number_of s (origin_event o) (origin_colour o) ≡ Ok j
  unfolding origin_judged
  back_if j k (Err x) e t = never_both (sym t)
  back_if j k (Ok n) e t =
      let x = origin (net_of s) j in
      let o = prefix_passed s (need (ltb j (basic (net_of s)).events) 10 0 (Ok (length x.colour))) n e in
      let low = (need_fine (ltb j (basic (net_of s)).events) 10 0 n (Ok (length x.colour)) o.1).0 in
      let i = origin_in (net_of s) j (T_of (ltb j (basic (net_of s)).events) low) in
      let same : colour_of (push_all no_colour x.colour) ≡ x.colour = colour_told x.colour (few_markers (net_of s) (tabled_net o.0) x i) in
      let back = ap (λ (c : List Marker). number (net_of s) (record { event = x.event; colour = c })) same ∙ number_origin (net_of s) j low in
      number_fine o.0 x.event (push_all no_colour x.colour) j back low

  -- What `event_origin` tells of a number, `event_number` takes back to it.
  pub event_back : (j k : ℕ) → origin_answer (origin_of s j) ≡ Ok k → number_of s (origin_event (origin_of s j)) (origin_colour (origin_of s j)) ≡ Ok j
  unfolding origin_of
  event_back j k t = back_if j k (origin_judged s j) refl t

  -- What `event_number` gives an event and markers, `event_origin` takes back to them.
  pub event_forth : (e : ℕ) (c : Colour) (j : ℕ) → number_of s e c ≡ Ok j
      → (origin_answer (origin_of s j) ≡ Ok c.count) × (origin_event (origin_of s j) ≡ e) × (colour_of (origin_colour (origin_of s j)) ≡ colour_of c)
  unfolding number_of basic number
  event_forth e c j t =
      let x : UnfoldedEvent = record { event = e; colour = colour_of c } in
      let k = number (net_of s) x in
      let all = unfolded_events (net_of s) in
      let o = prefix_passed s (need (ltb k (basic (net_of s)).events) 10 0 (Ok k)) j t in
      let f = need_fine (ltb k (basic (net_of s)).events) 10 0 j (Ok k) o.1 in
      let same : k ≡ j = ok_is f.1 in
      let r = index_found (same_event x) all (ltb→lt k (length all) (T_of (ltb k (length all)) f.0)) in
      let i : x ∈ all = subst (λ (y : UnfoldedEvent). y ∈ all) (sym (same_event_eq x r.0 r.2)) r.1 in
      let here : origin (net_of s) j ≡ x = ap (λ (y : ℕ). origin (net_of s) y) (sym same) ∙ origin_number_lem (net_of s) x i in
      let low : ltb j (basic (net_of s)).events ≡ true = subst (λ (y : ℕ). ltb y (basic (net_of s)).events ≡ true) same f.0 in
      let told = told_event o.0 j x i here low in
      let long : length (colour_of c) ≡ c.count = length-map (count 0 (c.count - 0)) (marker_at c) ∙ length_count 0 (c.count - 0) ∙ omega arith in
      let colour = ap (λ (y : Result EventOrigin Refusal). colour_of (origin_colour y)) told in (
        ap origin_answer told ∙ origin_many x ∙ ap Ok long,
        ap origin_event told,
        colour ∙ colour_told (colour_of c) (few_markers (net_of s) (tabled_net o.0) x i),
      )
