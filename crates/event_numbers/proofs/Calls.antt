-- The number for an event and markers once the table is laid out, in the words of the model.
use Prim.Native.Nat.{ℕ, suc, ◌+◌, ◌-◌, ◌≤◌, ◌<◌}
use native.Mathlib.Omega.{arith}
use mathlib.Core.Path.{◌≡◌, refl, sym, ap, ◌∙◌}
use mathlib.Core.List.{List, [], ◌∷◌}
use mathlib.Core.Bool.{false}
use lib.Dec.{T, ltb}
use lib.ListN.{length, length-map}
use Rattle.lists.proofs.Bools.{is_false, and_right}
use Rattle.lists.proofs.Members.{length_count}
use Rattle.lists.specs.Lists.{sum, keep, count, index}
use Rattle.words.specs.Words.{words}
use Rattle.model.specs.Runs.{Marker}
use Rattle.model.specs.Unfolding.{same_marker, markers, reads, basic}
use Rattle.model.specs.Numbering.{number, ways, size}
use Rattle.refusal.specs.Answer.{Judged, refused_at}
use Rattle.std.specs.Prelude.{Ok, None, Some}
use Rattle.refusal.proofs.Chain.{need_passes, need_refuses}
use Rattle.table.specs.Walk.{offset_of}
use Rattle.table.specs.Decoded.{net_of}
use Rattle.tally.specs.Having.{list_part}
use Rattle.layout.specs.Unfolds.{unfolding_of}
use Rattle.events.specs.declared.Colour.{Colour}
use Rattle.events.specs.Colours.{marker_at, colour_of}
use Rattle.unfolding.specs.Numbers.{Within, all_mark}
use Rattle.events.proofs.Calls.{inside, size_is}
use Rattle.event_numbers.specs.Weights.{weighed, Weighing}
use Rattle.event_numbers.specs.Answers.{number_of}
use Rattle.unfolding.proofs.Owners.{before_few}
use Rattle.event_numbers.proofs.Weights.{weighed_told, weighed_untold}
use Rattle.unfolding.proofs.Numbered.{radix_below, choices_at}
use Rattle.event_numbers.proofs.Numbered.{number_is, number_low, no_event, no_colour_lem}

-- ---- an event of a table that is laid out

pub few_choices : (s ms : List ℕ) (events : ℕ) → Within s ms events → (e : ℕ) → e < (net_of s).events → length (choices_at (net_of s) e) ≤ 16
unfolding reads
few_choices s ms events w e h = omega (arith, length-map (keep (net_of s).persistent ((net_of s).preconditions e)) (markers (net_of s)), w.marked.limits.few_persistent e h)

pub number_fits : (s ms : List ℕ) (events : ℕ) → Within s ms events → (e : ℕ) → e < (net_of s).events → (mss : List (List Marker)) → mss ≡ choices_at (net_of s) e
    → (c : List Marker) (k before : ℕ) → weighed mss c ≡ Some k → before ≡ sum (size (net_of s)) e → before + k ≤ 65535
unfolding size
number_fits s ms events x e h mss m c k before t b =
    let o = weighed_told mss c k t in
    omega (arith, o.1, radix_below mss c o.0, ap (λ (l : List (List Marker)). ways l) m, before_few s ms events x e h)

pub weighing_first : (s ms : List ℕ) (events : ℕ) → Within s ms events → (e at : ℕ) → e < (net_of s).events → at ≡ offset_of s e → (l : List ℕ) → l ≡ list_part false s at → Weighing s ms events (words l)
weighing_first s ms events w e at h q l p =
    record {
      within = w;
      inside = inside s ms events w e at h q l p;
      limit = omega (arith, size_is s ms events w e at h q l p, before_few s ms events w e h);
    }

-- ---- the number for an event and markers

all_length : (mss : List (List Marker)) (c : List Marker) → T (all_mark mss c) → length mss ≡ length c
all_length [] [] t = refl
all_length [] (m ∷ c) t = absurd t
all_length (ms ∷ mss) [] t = absurd t
all_length (ms ∷ mss) (m ∷ c) t = ap suc (all_length mss c (and_right (ltb (index (same_marker m) ms) (length ms)) (all_mark mss c) t))

module _ (s : List ℕ) (e : ℕ) (c : Colour) (u : (own : Judged) → unfolding_of s own ≡ own) where
  refuses : ltb (number (net_of s) (record { event = e; colour = colour_of c })) (basic (net_of s)).events ≡ false → refused_at 10 0 ≡ number_of s e c
  unfolding number_of
  refuses t = sym (u _ ∙ need_refuses 10 0 (Ok (number (net_of s) (record { event = e; colour = colour_of c }))) t)

  pub number_no_event : (net_of s).events ≤ e → refused_at 10 0 ≡ number_of s e c
  number_no_event h = refuses (no_event (net_of s) e (colour_of c) h)

  -- more markers than an event can have persistent preconditions
  pub number_many : 16 < c.count → length (choices_at (net_of s) e) ≤ 16 → refused_at 10 0 ≡ number_of s e c
  number_many h f =
      refuses (no_colour_lem (net_of s) e (colour_of c)
      (is_false (all_mark (choices_at (net_of s) e) (colour_of c))
      (λ t. omega (arith, all_length (choices_at (net_of s) e) (colour_of c) t, length-map (count 0 (c.count - 0)) (marker_at c), length_count 0 (c.count - 0)))))

  module _ (mss : List (List Marker)) (m : mss ≡ choices_at (net_of s) e) where
    pub number_no_colour : weighed mss (colour_of c) ≡ None → refused_at 10 0 ≡ number_of s e c
    number_no_colour t = refuses (no_colour_lem (net_of s) e (colour_of c) (rw m at (weighed_untold mss (colour_of c) t)))

    pub number_found : e < (net_of s).events → (k before : ℕ) → weighed mss (colour_of c) ≡ Some k → before ≡ sum (size (net_of s)) e → Ok (before + k) ≡ number_of s e c
    unfolding number_of
    number_found h k before t b =
        let x = weighed_told mss (colour_of c) k t in
        let all = rw m at x.0 in
        let n : number (net_of s) (record { event = e; colour = colour_of c }) ≡ before + k
        = number_is (net_of s) e (colour_of c) h all ∙ rw (b, x.1, m) in
        ap Ok (sym n) ∙ sym (u _ ∙ need_passes 10 0 (number_low (net_of s) e (colour_of c) h all))
