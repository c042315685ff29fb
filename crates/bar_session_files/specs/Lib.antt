pub mod Accepting
pub mod Refusals
