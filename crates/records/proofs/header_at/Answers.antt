-- `records::header_at` meets its contract.
use Rattle.records.proofs.Headers.{header_short, header_whole}
use native.Mathlib.Omega.{arith}
use Rattle.records.proofs.header_at.Goals as goal

pub returns-then-s-at : goal.returns-then-s-at
returns-then-s-at c =
    header_short c.args.s.now c.args.at (omega arith)

pub returns-then-s-at-2 : goal.returns-then-s-at-2
returns-then-s-at-2 c =
    header_short c.args.s.now c.args.at (omega arith)

pub returns : goal.returns
returns c =
    header_whole c.args.s.now c.args.at _ _ c.word.ensures c.word-len.ensures (omega arith)
