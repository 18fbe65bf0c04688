-- The theorem: what is opened and then written piece by piece is the listing of the two files.
use Prim.Native.Nat.{ℕ, ◌≤◌}
use mathlib.Core.Path.{◌≡◌, refl, sym, ap, ◌∙◌}
use mathlib.Core.List.{List}
use lib.Dec.{T}
use lib.ListN.{length, take}
use Rattle.model.specs.Net.{Net, begin, unknown, lacks, meets}
use Rattle.model.specs.Runs.{runs, end, opening, replay}
use Rattle.model.specs.Unfolding.{basic}
use mathlib.Core.Option.{none}
use Rattle.model.specs.Across as across
use Rattle.model.specs.Across.{of_table, of_unfolding, stopped, other, number_of, place_of, by_of, Answer, run, refusal, unless, stuck, most_steps, most_unfolded, too_long, unfolding_refused, own_or_earliest, repeated, again, lifted, lifting, lift}
use Rattle.model.proofs.Answers.{unless_run, not_stuck}
use Rattle.model.proofs.Limits.{unfolds_exactly, within_exactly}
use Rattle.model.proofs.Demands.{lift_project, lift_lifts, lift_length, lift_most}
use Rattle.refusal.specs.declared.Refusal.{Refusal}
use Rattle.refusal.specs.Answer.{Judged, condition_of, and_then}
use Rattle.std.specs.Prelude.{Result, Ok, Err}
use Rattle.refusal.proofs.Chain.{fitting_room}
use Rattle.table.specs.Walk.{judge_of}
use Rattle.table.specs.Decoded.{net_of}
use Rattle.table.specs.Links.{refusal_by, refusing}
use Rattle.table.proofs.Sound.{accepted_sound}
use Rattle.runs.specs.Runs.{run_of}
use Rattle.across.specs.Calls.{fitted, ended}
use Rattle.lift.specs.Calls.{lift_of}
use Rattle.ends.specs.Calls.{unfolded_replay_of}
use Rattle.listing.specs.Text.{refused_line}
use Rattle.listing.specs.Calls.{files_of}
use Rattle.listing.specs.Whole.{lines_of, lifted_lines, judged_lines, listing_of}
use Rattle.opening.specs.declared.Opened.{Opened}
use Rattle.lines.specs.declared.Place.TheVariants.{Start}
use Rattle.lines.specs.Places.{rest_of}
use Rattle.opening.specs.Opening.{lifted_run, start_bytes, end_bytes, reach_of, open_of, steps_in, Opens}
use Rattle.opening.proofs.Opening.{files_fine}
use Rattle.lines.proofs.Whole.{start_text}

-- What a lift that is a run tells of the run and of the limits.
module _ (n : Net) (r w : List ℕ) (a : lift n r ≡ run w) where
  after_length : (too_long r ≡ none) × (unless (unfolding_refused n) (lifting n (own_or_earliest n) 0 (opening n) r) ≡ run w)
  unfolding lift
  after_length = unless_run (too_long r) (unless (unfolding_refused n) (lifting n (own_or_earliest n) 0 (opening n) r)) w a

  after_limits : (unfolding_refused n ≡ none) × (lifting n (own_or_earliest n) 0 (opening n) r ≡ run w)
  after_limits = unless_run (unfolding_refused n) (lifting n (own_or_earliest n) 0 (opening n) r) w after_length.1

  few_unfolded : (basic n).conditions ≤ most_unfolded
  few_unfolded = ((within_exactly n).0 ((unfolds_exactly n).0 after_limits.0).1).0

  is_run_lem : T (runs n (begin n) r)
  unfolding lifting opening
  is_run_lem =
      not_stuck of_table n 0 (opening n) r
      (unless_run (stuck of_table (replay n 0 (opening n) r)) (unless (again (repeated n (own_or_earliest n) 0 (opening n) r)) (run (lifted n (own_or_earliest n) (opening n) r))) w after_limits.1).0

-- A run that lifts is opened; one that does not is refused as its lift is.
module _ (s r : List ℕ) (n : ℕ) (j : judge_of s ≡ Ok n) where
  module _ (w : List ℕ) (a : lift (net_of s) r ≡ run w) where
    lift_fits : lift_of s r most_steps ≡ Ok (length w)
    unfolding lift_of fitted
    lift_fits = rw (j, a) (fitting_room (length w) most_steps (lift_most (net_of s) r w a))

    numbers : lifted_run s r ≡ w
    unfolding lifted_run
    numbers = rw a

    end_fits : unfolded_replay_of s w most_unfolded ≡ Ok (basic (net_of s)).conditions
    unfolding unfolded_replay_of ended
    end_fits =
        rw (j, lift_project (net_of s) r w a) (fitting_room (basic (net_of s)).conditions most_unfolded (few_unfolded (net_of s) r w a))

    reach_fine : reach_of s r ≡ Ok (basic (net_of s)).conditions
    unfolding reach_of
    reach_fine = rw (lift_fits, numbers, end_fits)

    text_lines : rest_of (net_of s) r (lifted_run s r) (end_bytes s r) (start_bytes s) Start ≡ lines_of (net_of s) r w
    unfolding start_bytes end_bytes lines_of
    text_lines =
        start_text (net_of s) r (lifted_run s r) (end_bytes s r) (accepted_sound s n j) (ap length numbers ∙ lift_length (net_of s) r w (lift_lifts (net_of s) r w a))
        (end (basic (net_of s)) (begin (basic (net_of s))) (lifted_run s r)) (is_run_lem (net_of s) r w a) refl
        ∙ ap (lines_of (net_of s) r) numbers

  reach_refused : {x : across.Refusal} → lift (net_of s) r ≡ refusal x → reach_of s r ≡ refusing x
  unfolding reach_of lift_of fitted
  reach_refused a = rw (j, a)

-- An answer tells the condition that the model's refusal does, in either numbering.
condition_told : (x : across.Refusal) → condition_of (refusal_by x) ≡ by_of x
condition_told (stopped of_table unknown k) = refl
condition_told (stopped of_table (lacks b) k) = refl
condition_told (stopped of_table (meets b) k) = refl
condition_told (stopped of_unfolding unknown k) = refl
condition_told (stopped of_unfolding (lacks b) k) = refl
condition_told (stopped of_unfolding (meets b) k) = refl
condition_told (other number k) = refl

-- The text from the start on, as opening leaves what it is written from.
abbrev pub text_of_files : List ℕ → List ℕ → List ℕ
text_of_files s r = rest_of (net_of s) (run_of r) (lifted_run s (run_of r)) (end_bytes s (run_of r)) (start_bytes s) Start

module _ (s r : List ℕ) where
  by_lift : (n count : ℕ) → judge_of s ≡ Ok n → (a : Answer) → lift (net_of s) (run_of r) ≡ a
      → judged_lines (and_then (reach_of s (run_of r)) (λ _. Ok count)) (text_of_files s r) ≡ lifted_lines (net_of s) (run_of r) a
  unfolding judged_lines lifted_lines
  by_lift n count j (run w) e = rw (reach_fine s (run_of r) n j w e) (text_lines s (run_of r) n j w e)
  by_lift n count j (refusal x) e = rw (reach_refused s (run_of r) n j e) (ap (refused_line (number_of x) (place_of x)) (condition_told x))

  -- What is opened, and the text from the start on, are the listing (01, Nets to test with: Listing).
  pub whole_listing : judged_lines (open_of s r) (text_of_files s r) ≡ listing_of s r
  unfolding open_of listing_of judged_lines
  whole_listing = go (files_of s r most_steps) refl
    where
      go : (a : Judged) → files_of s r most_steps ≡ a
          → judged_lines (and_then a (λ count. and_then (reach_of s (run_of r)) (λ _. Ok count))) (text_of_files s r) ≡ judged_lines a (lifted_lines (net_of s) (run_of r) (lift (net_of s) (run_of r)))
      go (Err x) e = refl
      go (Ok count) e = by_lift (files_fine s r count e).events count (files_fine s r count e).judged (lift (net_of s) (run_of r)) refl

  -- Where opening is fine, the text from the start on is the listing.
  pub listing_written : (count : ℕ) → open_of s r ≡ Ok count → text_of_files s r ≡ listing_of s r
  unfolding judged_lines
  listing_written count e = ap (λ (x : Judged). judged_lines x (text_of_files s r)) (sym e) ∙ whole_listing

  -- Where it is refused, the line of the refusal is.
  pub listing_refused : (x : Refusal) → open_of s r ≡ Err x → refused_line x.number x.place (condition_of x.by) ≡ listing_of s r
  unfolding judged_lines
  listing_refused x e = ap (λ (x : Judged). judged_lines x (text_of_files s r)) (sym e) ∙ whole_listing

-- ---- over the contracts of opening and of writing

module _ (s r : List ℕ) (answer : Result Opened Refusal) (steps lifted offsets marking end : List ℕ) (opens : Opens s r answer steps lifted offsets marking end) where
  -- Once the files are opened, what lent memory holds is written to the listing.
  pub opened_listing : (o : Opened) → answer ≡ Ok o
      → rest_of (net_of s) (take o.steps steps) (take o.steps lifted) (take o.unfolded end) (take o.conditions marking) Start ≡ listing_of s r
  opened_listing o e =
      let h = opens.holds o e in
      rw (h.run, h.lifts, h.ended, h.begun) (listing_written s r o.steps (sym opens.told ∙ ap steps_in e))

  -- A refusal's line is the listing.
  pub opened_refused : (x : Refusal) → answer ≡ Err x → refused_line x.number x.place (condition_of x.by) ≡ listing_of s r
  opened_refused x e = listing_refused s r x (sym opens.told ∙ ap steps_in e)
