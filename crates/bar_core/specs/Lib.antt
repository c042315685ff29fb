pub mod Rules
pub mod Code
pub mod Runs
