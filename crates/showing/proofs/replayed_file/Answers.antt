-- As many steps as were read stand in the lent run.
use Rattle.std.proofs.Common.{◌≡◌, ℕ, ◌≤◌, arith, sym, ◌∙◌, length}
use lib.ListN.{length-replicate}
use Rattle.runs.proofs.Answers.{read_fine}
use Rattle.showing.proofs.replayed_file.Goals as goal

pub slice_bounds-replayed-end : goal.slice_bounds-replayed-end
slice_bounds-replayed-end g c =
    let read = c.read_run in
    let long : length read.new.run ≡ 4096 = read.auto.run ∙ length-replicate {A = ℕ} 4096 0 in
    let held = (read_fine _ _ _ _ (sym read.ensures.answer ∙ c.in-Ok.is)).1 in
    let fits : c.in-Ok.count ≤ length read.new.run = omega (arith, long, held) in
    fits
