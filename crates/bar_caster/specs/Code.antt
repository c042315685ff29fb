-- Definitions about code: a broadcaster's memory and orders. The headline rests on none of them.
pub mod Evictions
pub mod Listed
pub mod Fanout
pub mod Memory
pub mod Orders
pub mod StandsFor
pub mod Ticking
pub mod Core
pub mod Time
pub mod Runs
pub mod Ignoring
