-- Definitions about code: counts, actions and turns of a run. The headline doesn't depend on them.
pub mod Turns
pub mod Counting
pub mod Taking
pub mod Effects
