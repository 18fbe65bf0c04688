-- `words::has` meets its contract.
use mathlib.Core.Path.{refl, sym}
use Rattle.words.proofs.Pairs.{pairs_any, wide_none}
use Rattle.words.proofs.has.Goals as goal

pub returns-in-Ok : goal.returns-in-Ok
returns-in-Ok c =
    let (few, same) = c.in-Ok.ensures in
    rw (c.contains.ensures.value, c.as_chunks.ensures.front, c.to_le_bytes.ensures, same)
    (pairs_any c.args.s.now _ c.args.number refl (λ i. (c.type_inv.s i).fits) few)

pub returns-in-Err : goal.returns-in-Err
returns-in-Err c = sym (wide_none c.args.s.now c.args.number (λ i. (c.type_inv.s i).fits) c.in-Err.ensures)
