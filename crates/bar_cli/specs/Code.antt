-- Definitions about code: commands in the code. The headline doesn't depend on them.
pub mod Views
pub mod Turns
