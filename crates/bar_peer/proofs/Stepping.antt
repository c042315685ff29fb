-- The outcome of an input.
pub mod Guards
pub mod Ignored
pub mod Datagrams
pub mod Inputs
