-- What a reader must believe, in reading order. A sentence cites what decides it: 01 is the requirements document, by the title of
-- its section; 02 has the change requests, by number; the paper is F. Crazzolara and G. Winskel, Petri Nets With Persistence, by its
-- section; 001 are lecture slides on Petri nets, which have the rule that old racks follow.
pub mod Net
pub mod Lent
pub mod Runs
pub mod Unfolding
pub mod Numbering
pub mod Exchange
pub mod Across
pub mod Paper
pub mod Demands
pub mod Readings
pub mod Stopped
pub mod Examples
