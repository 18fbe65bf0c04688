-- What an element is written from is there at the next place, and one element fewer is left.
use Rattle.std.proofs.Common.{◌<◌, arith, length, sym, ◌∙◌}
use borrow.Author.Tests.{ltb-true}
use Rattle.table.specs.Decoded.{net_of}
use Rattle.elements.specs.Calls.{elements_of}
use Rattle.elements.proofs.Reading.{elements_all}
use Rattle.elements.proofs.Whole.{goes_exactly}
use Rattle.export_places.specs.Places.{index_at}
use Rattle.export.proofs.show.Goals as goal

pub loop-opened-smaller : goal.loop-opened-smaller
loop-opened-smaller g c =
    let goes = sym c.loop-opened-test.ensures in
    let low : index_at (net_of c.args.table.now) c.loop-opened.place < length (elements_of c.args.table.now) = ltb-true (index_at (net_of c.args.table.now) c.loop-opened.place) (length (elements_of c.args.table.now)) (sym (goes_exactly c.args.table.now c.args.markers.now c.args.users.now c.args.bases.now c.loop-opened.marks c.loop-opened.uses c.loop-opened.starts c.loop-opened.sizes c.loop-opened.place c.loop-opened.invariant.1) ∙ goes) in
    omega (arith, low, elements_all c.args.table.now, c.write-written.ensures.moved.after goes)
