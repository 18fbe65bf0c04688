-- The theorems, in the order in which they build on each other. Alike states that a net and its doubled net have the same runs, Exported
-- says so of the unfolded net, Ordered that first places come before second ones in every list.
pub mod Counting
pub mod Ordered
pub mod Mirroring
pub mod Alike
pub mod Exported
pub mod Examples
