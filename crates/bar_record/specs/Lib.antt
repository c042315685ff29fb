pub mod Recording
pub mod Code
pub mod Pacing
