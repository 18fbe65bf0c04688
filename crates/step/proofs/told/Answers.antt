-- `step::told` meets its contract.
use Rattle.step.proofs.told.Goals as goal

pub returns-in-Some : goal.returns-in-Some
returns-in-Some c =
    rw c.in-Some.is

pub returns-in-Some-meeting : goal.returns-in-Some-meeting
returns-in-Some-meeting c =
    rw (c.in_default.is, c.in-Some-meeting.is)

pub returns : goal.returns
returns c =
    rw (c.in_default.is, c.in_default-meeting.is)
