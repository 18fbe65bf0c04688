-- The two files opened: what each stage was given, and what it leaves for the next.
use Prim.Native.Nat.{ℕ, ◌-◌, ◌≤◌}
use native.Mathlib.Omega.{arith}
use mathlib.Core.Path.{◌≡◌, refl, sym, ap, ◌∙◌, subst}
use mathlib.Core.List.{List}
use lib.Dec.{leb}
use lib.ListN.{length, take}
use lib.Seq.{get_or-take, length-take-le}
use Rattle.model.specs.Net.{begin}
use Rattle.model.specs.Runs.{end}
use Rattle.model.specs.Lent.{bytes}
use Rattle.model.specs.Unfolding.{basic}
use Rattle.model.specs.Across.{run, lift, project, most_steps, most_unfolded}
use Rattle.model.proofs.Lent.{length_bytes, bytes_at, bytes_are}
use Rattle.model.proofs.Demands.{lift_lifts, lift_length}
use Rattle.refusal.specs.declared.Refusal.{Refusal}
use Rattle.refusal.specs.Answer.{Judged, need, and_then, written}
use Rattle.std.specs.Prelude.{Result, Ok, Err}
use Rattle.refusal.proofs.Chain.{passed_up, goes_on, never_both, ok_is, need_fine, then_fine, written_front}
use Rattle.records.specs.Records.{conditions}
use Rattle.table.specs.Walk.{judge_of}
use Rattle.table.specs.Decoded.{net_of}
use Rattle.table.proofs.Sound.{tabled}
use Rattle.played.specs.Played.{Indexed}
use Rattle.table.proofs.Decoded.{conditions_are_all}
use Rattle.runs.specs.Runs.{run_kind, run_of, read_answer}
use Rattle.runs.proofs.Judging.{length_run}
use Rattle.runs.proofs.Answers.{read_fine}
use Rattle.across.specs.Calls.{fitted, numbers_of, ended}
use Rattle.across.proofs.Prefix.{fitted_fine, ended_fine}
use Rattle.lift.specs.Calls.{lift_of, lifted_of}
use Rattle.ends.specs.Calls.{unfolded_replay_of, unfolded_replayed_of}
use Rattle.listing.specs.Calls.{most_net_bytes, most_run_bytes, files_of}
use Rattle.opening.specs.declared.Opened.{Opened}
use Rattle.opening.specs.Opening.{lifted_run, start_bytes, end_bytes, reach_of, open_of, Reaches, SetsUp, Holds, steps_in, Opens}

-- ---- the files

-- What fine files have told: the table is judged, and the run has so many steps.
pub record Read (s r : List ℕ) (count : ℕ) : Type 0 where
  pub events : ℕ
  pub judged : judge_of s ≡ Ok events
  pub counted : count ≡ length (run_of r)
  pub short : count ≤ most_steps

pub files_fine : (s r : List ℕ) (count : ℕ) → files_of s r most_steps ≡ Ok count → Read s r count
unfolding files_of
files_fine s r count e =
    let a = (need_fine (leb (length s) most_net_bytes) 19 0 count (and_then (judge_of s) (λ n. need (leb (length r) most_run_bytes) 19 0 (read_answer run_kind r most_steps))) e).1 in
    let (n, j, b) = then_fine (judge_of s) (λ _. need (leb (length r) most_run_bytes) 19 0 (read_answer run_kind r most_steps)) count a in
    let d = (need_fine (leb (length r) most_run_bytes) 19 0 count (read_answer run_kind r most_steps) b).1 in
    let x = read_fine run_kind r most_steps count d in
    record { events = n; judged = j; counted = sym (length_run x.0); short = x.1 }

-- What was written stands at the front.
front : (answer : Judged) (k count : ℕ) (new old after : List ℕ) → answer ≡ Ok k → after ≡ written answer new old → count ≡ length new → take count after ≡ new
front answer k count new old after e is size =
    ap (take count) is ∙ ap (λ (x : ℕ). take x (written answer new old)) size ∙ written_front answer k new old e

-- An answer is fine with one number only.
same_fine : (n m : ℕ) (answer : Judged) → answer ≡ Ok n → answer ≡ Ok m → n ≡ m
same_fine n m answer e f = let x : Ok n ≡ Ok m = sym e ∙ f in cc

-- ---- the lift and its end

-- What a fine lift has told.
pub record Lifted (s r : List ℕ) (count : ℕ) : Type 0 where
  pub numbers : List ℕ
  pub lifts : lift (net_of s) r ≡ run numbers
  pub are : numbers ≡ lifted_run s r
  pub counted : count ≡ length (lifted_run s r)
  pub same : count ≡ length r
  pub short : count ≤ most_steps

pub lift_fine : (s r : List ℕ) (count : ℕ) → lift_of s r most_steps ≡ Ok count → Lifted s r count
unfolding lift_of lifted_run
lift_fine s r count e =
    let (n, j, f) = then_fine (judge_of s) (λ _. fitted (lift (net_of s) r) most_steps) count e in
    let (w, a, size, room) = fitted_fine (lift (net_of s) r) most_steps count f in
    let is : w ≡ numbers_of (lift (net_of s) r) = sym (ap numbers_of a) in
    let long = lift_length (net_of s) r w (lift_lifts (net_of s) r w a) in
    record { numbers = w; lifts = a; are = is; counted = size ∙ ap length is; same = size ∙ long; short = omega (arith, size) }

replay_sizes : (s w : List ℕ) (room u : ℕ) → unfolded_replay_of s w room ≡ Ok u → (u ≡ (basic (net_of s)).conditions) × (u ≤ room)
unfolding unfolded_replay_of
replay_sizes s w room u e =
    let (n, j, f) = then_fine (judge_of s) (λ _. ended (project (net_of s) w) (basic (net_of s)).conditions room) u e in
    let x = ended_fine (project (net_of s) w) (basic (net_of s)).conditions room u f in
    (x.2, omega (arith, x.2, x.3))

replay_front : (s r was out : List ℕ) (u : ℕ) → length was ≡ most_unfolded → unfolded_replay_of s (lifted_run s r) most_unfolded ≡ Ok u
    → out ≡ unfolded_replayed_of s (lifted_run s r) was → take u out ≡ end_bytes s r
unfolding unfolded_replayed_of end_bytes
replay_front s r was out u roomy e is =
    let m = end (basic (net_of s)) (begin (basic (net_of s))) (lifted_run s r) in
    front (unfolded_replay_of s (lifted_run s r) (length was)) u u (bytes (basic (net_of s)).conditions m) was out
    (ap (unfolded_replay_of s (lifted_run s r)) roomy ∙ e) is
    ((replay_sizes s (lifted_run s r) most_unfolded u e).0 ∙ sym (length_bytes (basic (net_of s)).conditions m))

module _ (s r old lifted : List ℕ) (answer : Judged) (many : length old ≡ most_steps) (told : answer ≡ lift_of s r (length old)) (left : lifted ≡ lifted_of s r old) where
  lift_told : answer ≡ lift_of s r most_steps
  lift_told = told ∙ ap (lift_of s r) many

  -- The lift was refused.
  pub reach_refused : {x : Refusal} → answer ≡ Err x → (out : List ℕ) → Reaches s r answer lifted out
  unfolding reach_of
  reach_refused e out = record {
    told = passed_up (λ _. unfolded_replay_of s (lifted_run s r) most_unfolded) lift_told e;
    few = λ u f. never_both (sym f ∙ e);
    lifts = λ u f. never_both (sym f ∙ e);
    ended = λ u f. never_both (sym f ∙ e);
  }

  module _ (count : ℕ) (fine : answer ≡ Ok count) where
    lifted_fine : Lifted s r count
    lifted_fine = lift_fine s r count (sym lift_told ∙ fine)

    lifted_front : (k : ℕ) → k ≡ count → take k lifted ≡ lifted_run s r
    unfolding lifted_of lifted_run
    lifted_front k e =
        front (lift_of s r (length old)) count k (numbers_of (lift (net_of s) r)) old lifted (sym told ∙ fine) left (e ∙ lifted_fine.counted)

    pub lift_room : length lifted ≡ length old → count ≤ length lifted
    lift_room kept = omega (arith, kept, many, lifted_fine.short)

    -- The lift is replayed to its end.
    pub reach_ended : (was out : List ℕ) (replayed : Judged) → length was ≡ most_unfolded
        → replayed ≡ unfolded_replay_of s (take (count - 0) lifted) (length was) → out ≡ unfolded_replayed_of s (take (count - 0) lifted) was → Reaches s r replayed lifted out
    unfolding reach_of
    reach_ended was out replayed roomy asked gone =
        let part : take (count - 0) lifted ≡ lifted_run s r = lifted_front (count - 0) (omega arith) in
        let answered : replayed ≡ unfolded_replay_of s (lifted_run s r) most_unfolded
        = asked ∙ ap (λ (x : List ℕ). unfolded_replay_of s x (length was)) part ∙ ap (unfolded_replay_of s (lifted_run s r)) roomy in
        record {
          told = answered ∙ sym (goes_on (λ _. unfolded_replay_of s (lifted_run s r) most_unfolded) lift_told fine);
          few = λ u f. (replay_sizes s (lifted_run s r) most_unfolded u (sym answered ∙ f)).1;
          lifts = λ u f. lifted_front (length r) (sym lifted_fine.same);
          ended = λ u f. replay_front s r was out u roomy (sym answered ∙ f) (gone ∙ ap (λ (x : List ℕ). unfolded_replayed_of s x was) part);
        }

-- ---- the index and the start

pub set_up_refused : (s : List ℕ) (answer : Judged) (offsets marking : List ℕ) {x : Refusal} → answer ≡ judge_of s → answer ≡ Err x → SetsUp s answer offsets marking
set_up_refused s answer offsets marking told e = record { told = told; indexed = λ n f. never_both (sym f ∙ e); begun = λ n f. never_both (sym f ∙ e) }

pub set_up_done : (s : List ℕ) (n : ℕ) (offsets marking : List ℕ) → judge_of s ≡ Ok n → Indexed s n offsets → marking ≡ bytes 256 (begin (net_of s))
    → SetsUp s (Ok n) offsets marking
set_up_done s n offsets marking j filled begun =
    record { told = sym j; indexed = λ m f. subst (λ (k : ℕ). Indexed s k offsets) (same_fine n m (Ok n) refl f) filled; begun = λ m f. begun }

begun_front : (s marking : List ℕ) (n c : ℕ) → judge_of s ≡ Ok n → c ≡ (net_of s).conditions → marking ≡ bytes 256 (begin (net_of s)) → take c marking ≡ start_bytes s
unfolding start_bytes
begun_front s marking n c j e is =
    let few : c ≤ 256 = omega (arith, e, (tabled s n j).few_conditions) in
    let m = begin (net_of s) in
    ap (take c) is
    ∙ bytes_are (take c (bytes 256 m)) c m (length-take-le c (bytes 256 m) (rw (length_bytes 256 m) few))
    (λ i q. get_or-take c (bytes 256 m) i 0 q ∙ bytes_at 256 m i (omega arith))
    ∙ ap (λ (k : ℕ). bytes k m) e

-- ---- all of it

opens_refused : (s r : List ℕ) (answer : Result Opened Refusal) (steps lifted offsets marking end : List ℕ) {x : Refusal} → Err x ≡ open_of s r → answer ≡ Err x
    → Opens s r answer steps lifted offsets marking end
opens_refused s r answer steps lifted offsets marking end told e = record { told = ap steps_in e ∙ told; holds = λ o f. never_both (sym f ∙ e) }

module _ (s r old steps : List ℕ) (read : Judged) (many : length old ≡ most_steps) (told : read ≡ files_of s r (length old)) (left : steps ≡ written read (run_of r) old) where
  abbrev rest : ℕ → Judged
  rest count = and_then (reach_of s (run_of r)) (λ _. Ok count)

  read_told : read ≡ files_of s r most_steps
  read_told = told ∙ ap (files_of s r) many

  pub files_refused : {x : Refusal} → read ≡ Err x → (answer : Result Opened Refusal) → answer ≡ Err x → (lifted offsets marking end : List ℕ)
      → Opens s r answer steps lifted offsets marking end
  unfolding open_of
  files_refused e answer is lifted offsets marking end = opens_refused s r answer steps lifted offsets marking end (sym e ∙ passed_up rest read_told e) is

  module _ (count : ℕ) (fine : read ≡ Ok count) where
    files : Read s r count
    files = files_fine s r count (sym read_told ∙ fine)

    pub read_room : length steps ≡ length old → count ≤ length steps
    read_room kept = omega (arith, kept, many, files.short)

    run_front : (k : ℕ) → k ≡ count → take k steps ≡ run_of r
    run_front k e = front read count k (run_of r) old steps fine left (e ∙ files.counted)

    goes : open_of s r ≡ rest count
    unfolding open_of
    goes = goes_on rest read_told fine

    module _ (reached : Judged) (lifted end : List ℕ) (reach : Reaches s (take (count - 0) steps) reached lifted end) where
      reach_run : Reaches s (run_of r) reached lifted end
      reach_run = subst (λ (x : List ℕ). Reaches s x reached lifted end) (run_front (count - 0) (omega arith)) reach

      pub run_refused : {x : Refusal} → reached ≡ Err x → (answer : Result Opened Refusal) → answer ≡ Err x → (offsets marking : List ℕ)
          → Opens s r answer steps lifted offsets marking end
      run_refused e answer is offsets marking =
          opens_refused s r answer steps lifted offsets marking end (sym e ∙ passed_up (λ _. Ok count) reach_run.told e ∙ sym goes) is

      module _ (judged : Judged) (offsets marking : List ℕ) (set : SetsUp s judged offsets marking) where
        pub never_refused : {A : Type 0} {x : Refusal} → judged ≡ Err x → A
        never_refused e = never_both (sym files.judged ∙ sym set.told ∙ e)

        pub opened : (o : Opened) → o.steps ≡ count → reached ≡ Ok o.unfolded → judged ≡ Ok o.events → o.conditions ≡ conditions s
            → Opens s r (Ok o) steps lifted offsets marking end
        opened o counted reaches sets are =
            let j = sym set.told ∙ sets in
            let all : o.conditions ≡ (net_of s).conditions = are ∙ conditions_are_all s o.events j in
            let held : Holds s r count o.events o.conditions o.unfolded steps lifted offsets marking end
            = record {
              judged = j;
              indexed = set.indexed o.events sets;
              short = files.short;
              run = run_front count refl;
              lifts = ap (λ (k : ℕ). take k lifted) files.counted ∙ reach_run.lifts o.unfolded reaches;
              are = all;
              begun = begun_front s marking o.events o.conditions j all (set.begun o.events sets);
              few = reach_run.few o.unfolded reaches;
              ended = reach_run.ended o.unfolded reaches;
            } in
            record {
              told = ap Ok counted ∙ sym (goes ∙ goes_on (λ _. Ok count) reach_run.told reaches);
              holds = λ k f.
                  subst (λ (x : Opened). Holds s r x.steps x.events x.conditions x.unfolded steps lifted offsets marking end) (ok_is f)
                  (subst (λ (x : ℕ). Holds s r x o.events o.conditions o.unfolded steps lifted offsets marking end) (sym counted) held);
            }
