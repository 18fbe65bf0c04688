-- `lift::lift_played` meets its contract.
use native.Mathlib.Omega.{arith}
use mathlib.Core.Path.{◌∙◌, refl}
use Rattle.refusal.proofs.Chain.{written_refused}
use Rattle.lift.proofs.Later.{later_marking}
use Rattle.lift.proofs.Settled.{firsts_marking}
use Rattle.lift.proofs.Answers.{lift_again, lift_short, lift_fits, lift_written, writing}
use Rattle.lift.proofs.lift_played.Goals as goal

pub once_only-requires : goal.once_only-requires
once_only-requires c =
    record {
      events_value = c.requires.within.all;
      used = c.requires.used;
      once_len = refl;
    }

pub returns-in-Some : goal.returns-in-Some
returns-in-Some c =
    record {
      answer = c.refused.ensures ∙ lift_again _ _ c.requires.walkable.plays _ _ c.walk-walked.ensures _ _ c.in-Some.is;
      after = written_refused _ _ _ _ c.refused.ensures;
    }

pub returns-then-out-run : goal.returns-then-out-run
returns-then-out-run c =
    record {
      answer = c.refused-then-out-run.ensures ∙ lift_short _ _ c.requires.walkable.plays _ _ c.walk-walked.ensures c.in_default.is _ (omega arith);
      after = written_refused _ _ _ _ c.refused-then-out-run.ensures;
    }

pub settled_numbers-requires : goal.settled_numbers-requires
settled_numbers-requires c =
    record {
      within = c.requires.within;
      sums = c.requires.sizes;
      marking = firsts_marking _ _ c.requires.walkable.plays _ c.walk-walked.ensures.firsts;
      numbers_len = refl;
    }

pub own_markers-own-requires : goal.own_markers-own-requires
own_markers-own-requires c =
    record {
      events_value = c.requires.within.all;
      used = c.requires.used;
    }

pub settled_numbers-requires-2 : goal.settled_numbers-requires-2
settled_numbers-requires-2 c =
    record {
      within = c.requires.within;
      sums = c.requires.sizes;
      marking = later_marking _ _ _ c.own_markers-own.ensures (firsts_marking _ _ c.requires.walkable.plays _ c.walk-walked.ensures.firsts);
      numbers_len = refl;
    }

pub write_lifted-requires : goal.write_lifted-requires
write_lifted-requires c =
    writing _ _ c.requires.walkable.plays _ _ _ _ c.settled_numbers.ensures c.settled_numbers-2.ensures c.requires.within.marked.limits _ (omega arith)

pub returns : goal.returns
returns c =
    record {
      answer = lift_fits _ _ c.requires.walkable.plays _ _ c.walk-walked.ensures c.in_default.is _ (omega arith);
      after = lift_written _ _ c.requires.walkable.plays _ _ c.walk-walked.ensures c.in_default.is _ c.own_markers-own.ensures _ _ c.settled_numbers.ensures c.settled_numbers-2.ensures c.requires.within.marked.limits _ _ c.write_lifted.ensures;
    }
