-- The theorems, in the order in which they build on each other. Demands states demands 2 and 3 for the calls; Sets and Rule that
-- the definitions are the paper's; Numbers and Counts that the numbering is whole; Stopped that the condition told is the lowest.
pub mod Firing
pub mod Soundness
pub mod Lent
pub mod Replay
pub mod Unfolded
pub mod Rule
pub mod Sets
pub mod Stopped
pub mod Numbers
pub mod Counts
pub mod Idle
pub mod Laws
pub mod Copies
pub mod Project
pub mod Repeats
pub mod Lift
pub mod Answers
pub mod Limits
pub mod Exchange
pub mod ExchangeLift
pub mod Own
pub mod Readings
pub mod Demands
pub mod Examples
pub mod Premises
