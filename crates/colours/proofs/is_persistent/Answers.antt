-- `colours::is_persistent` meets its contract.
use native.Mathlib.Omega.{arith}
use Rattle.records.proofs.First.{front_low}
use Rattle.colours.proofs.Flags.{flag_here, flag_past}
use Rattle.colours.proofs.is_persistent.Goals as goal

pub overflow_add-at : goal.overflow_add-at
overflow_add-at c =
    omega (arith, c.front-at.ensures, front_low c.args.table.now)

pub overflow_add-at-then-b-word : goal.overflow_add-at-then-b-word
overflow_add-at-then-b-word c =
    omega (arith, c.front-at.ensures, front_low c.args.table.now)

pub returns-then-b-word : goal.returns-then-b-word
returns-then-b-word c =
    rw c.byte.ensures (flag_here c.args.table.now c.args.b c.front-at.result c.word.result c.front-at.ensures c.word.ensures c.if-b-word.true)

pub returns-else-b-word : goal.returns-else-b-word
returns-else-b-word c =
    flag_past c.args.table.now c.args.b c.front-at.result c.word.result c.front-at.ensures c.word.ensures c.if-b-word.false
