-- What is promised of the calls: which refusals they give and which condition these name, what the answers were before they named one and
-- by the former rule of lifting, by which rule a table is played, when an exchange is made, what the paper's sets say of the
-- unfolding, and what holds of several calls together.
pub mod Refused
pub mod Before
pub mod Former
pub mod Stopped
pub mod Ruled
pub mod Game
pub mod Exchanged
pub mod Paper
pub mod Across
pub mod Losses
pub mod Stages
