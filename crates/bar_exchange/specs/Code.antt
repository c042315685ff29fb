-- Definitions about code: orders, and what is written and kept of an exchange. The headline rests on none of them.
pub mod Says
pub mod Keeping
pub mod Parts
pub mod Counts
pub mod Writing
pub mod Answering
pub mod Naming
pub mod Placing
