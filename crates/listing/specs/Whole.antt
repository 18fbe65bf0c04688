-- The whole listing for the bytes of the two files.
use Rattle.std.specs.Prelude.{List, [], ◌∷◌, ◌++◌, ℕ, suc, Ok, Err}
use Rattle.model.specs.Net.{Net, Marking, begin, fire}
use Rattle.model.specs.Runs.{end}
use Rattle.model.specs.Unfolding.{basic}
use Rattle.model.specs.Across as across
use Rattle.refusal.specs.Answer.{Judged, condition_of}
use Rattle.table.specs.Decoded.{net_of}
use Rattle.runs.specs.Runs.{run_of}
use Rattle.listing.specs.Text.{holding, start_line, step_line, end_line, refused_line}
use Rattle.listing.specs.Calls.{files_of}

-- The lines of a run from a marking on beside its lifted run, steps counted from k (01, Nets to test with: Listing).
unfoldable pub step_lines : Net → ℕ → Marking → List ℕ → List ℕ → List ℕ
step_lines n k m [] w = []
step_lines n k m (e ∷ r) [] = []
step_lines n k m (e ∷ r) (u ∷ w) =
    step_line k e u (holding (fire n m e) 0 n.conditions) ++ step_lines n (suc k) (fire n m e) r w

-- The start, the steps and the unfolded end (01, Nets to test with: Listing).
unfoldable pub lines_of : Net → List ℕ → List ℕ → List ℕ
lines_of n r w =
    start_line (holding (begin n) 0 n.conditions)
    ++ step_lines n 0 (begin n) r w
    ++ end_line (holding (end (basic n) (begin (basic n)) w) 0 (basic n).conditions)

-- The lines of a run with its lift, or the lift's own refusal (01, Nets to test with: Listing).
unfoldable pub lifted_lines : Net → List ℕ → across.Answer → List ℕ
lifted_lines n r (across.run w) = lines_of n r w
lifted_lines n r (across.refusal x) = refused_line (across.number_of x) (across.place_of x) (across.by_of x)

-- The refusal of a file, or else the lines (01, Nets to test with: Listing).
unfoldable pub judged_lines : Judged → List ℕ → List ℕ
judged_lines (Err x) lines = refused_line x.number x.place (condition_of x.by)
judged_lines (Ok steps) lines = lines

-- The listing of a table's file and a run's (01, Nets to test with: Listing).
unfoldable pub listing_of : List ℕ → List ℕ → List ℕ
listing_of s r = judged_lines (files_of s r across.most_steps) (lifted_lines (net_of s) (run_of r) (across.lift (net_of s) (run_of r)))
