-- What writing a piece and reading the files answer, case by case.
use Prim.Native.Nat.{ℕ, ◌-◌, ◌≤◌, ◌<◌}
use mathlib.Core.Path.{◌≡◌}
use mathlib.Core.List.{List}
use borrow.Author.Tests.{le-leb, lt-leb}
use lib.ListN.{length}
use Rattle.model.specs.Lent.{marking}
use Rattle.model.specs.Across.{most_unfolded}
use Rattle.refusal.specs.declared.Refusal.{Refusal}
use Rattle.std.specs.Prelude.{Ok, Err}
use Rattle.refusal.specs.Answer.{refused_at, need, fitting}
use Rattle.table.specs.Walk.{judge_of}
use Rattle.runs.specs.Runs.{run_kind, read_answer}
use Rattle.listing.specs.declared.Piece.{Piece}
use Rattle.listing.specs.Text.{commas, holding}
use Rattle.listing.specs.Calls.{next_of, more_piece, text_of, piece_of, most_net_bytes, most_run_bytes, files_of}

module _ (p : Piece) (l : List ℕ) (room : ℕ) where
  pub piece_long : most_unfolded < length l → piece_of p l room ≡ refused_at 18 most_unfolded
  unfolding piece_of need
  piece_long h = rw (lt-leb (length l) most_unfolded h)

  pub piece_short : (needed : ℕ) → needed ≡ length (text_of p l) → length l ≤ most_unfolded → room < needed → piece_of p l room ≡ refused_at 16 needed
  unfolding piece_of fitting need
  piece_short needed e few h = rw (← e, le-leb (length l) most_unfolded few, lt-leb needed room h)

  pub piece_fits : (needed : ℕ) → needed ≡ length (text_of p l) → length l ≤ most_unfolded → needed ≤ room → piece_of p l room ≡ Ok needed
  unfolding piece_of fitting need
  piece_fits needed e few h = rw (← e, le-leb (length l) most_unfolded few, le-leb needed room h)

-- A further piece up to where the next one begins.
pub more_is : (l : List ℕ) (from next : ℕ) → next ≡ next_of l from → commas (holding (marking l) from (next - from)) ≡ more_piece l from
unfolding more_piece
more_is l from next e = rw e

-- The files, by what their bytes were found to be.
module _ (s r : List ℕ) (room : ℕ) where
  pub net_long : most_net_bytes < length s → files_of s r room ≡ refused_at 19 0
  unfolding files_of need
  net_long h = rw (lt-leb (length s) most_net_bytes h)

  pub net_refused : (x : Refusal) → length s ≤ most_net_bytes → judge_of s ≡ Err x → files_of s r room ≡ Err x
  unfolding files_of need
  net_refused x few e = rw (le-leb (length s) most_net_bytes few, e)

  pub run_long : (n : ℕ) → length s ≤ most_net_bytes → judge_of s ≡ Ok n → most_run_bytes < length r → files_of s r room ≡ refused_at 19 0
  unfolding files_of need
  run_long n few e h = rw (le-leb (length s) most_net_bytes few, e, lt-leb (length r) most_run_bytes h)

  pub run_read : (n : ℕ) → length s ≤ most_net_bytes → judge_of s ≡ Ok n → length r ≤ most_run_bytes → files_of s r room ≡ read_answer run_kind r room
  unfolding files_of need
  run_read n few e h = rw (le-leb (length s) most_net_bytes few, e, le-leb (length r) most_run_bytes h)
