pub mod Names
pub mod Words
pub mod Outcomes
pub mod Family
pub mod Sessions
pub mod Code
pub mod Laws
