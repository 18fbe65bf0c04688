-- What was opened is ready to be written.
use Rattle.std.proofs.Common.{◌≡◌, ℕ, ◌≤◌, arith, ◌∙◌, length}
use lib.ListN.{length-replicate}
use Rattle.lines.proofs.Ready.{few_shown, opened_ready}
use Rattle.list.proofs.list.Goals as goal

pub slice_bounds-show-end-in-Ok : goal.slice_bounds-show-end-in-Ok
slice_bounds-show-end-in-Ok g c =
    let lent = c.open_files in
    let held = lent.ensures.holds _ c.in-Ok.is in
    let many : length lent.new.steps ≡ 4096 = lent.auto.steps ∙ length-replicate {A = ℕ} 4096 0 in
    let fits : c.in-Ok.opened.steps ≤ length lent.new.steps = omega (arith, held.short, many) in
    fits

pub slice_bounds-marking-end : goal.slice_bounds-marking-end
slice_bounds-marking-end g c =
    let lent = c.open_files in
    few_shown _ _ _ _ _ _ _ _ _ _ _ (lent.ensures.holds _ c.in-Ok.is) (lent.auto.marking ∙ length-replicate {A = ℕ} 256 0)

pub show-requires : goal.show-requires
show-requires g c =
    let lent = c.open_files in
    let many = lent.auto.steps ∙ length-replicate {A = ℕ} 4096 0 in
    let beside = lent.auto.lifted ∙ length-replicate {A = ℕ} 4096 0 in
    let roomy = lent.auto.end ∙ length-replicate {A = ℕ} 65535 0 in
    opened_ready _ _ _ _ _ _ _ _ _ _ _ (lent.ensures.holds _ c.in-Ok.is) many beside roomy
