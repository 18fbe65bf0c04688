-- The definitions, in reading order: Begun is what the contracts of the calls above cite, Played what stands below them.
pub mod Begun
pub mod Played
