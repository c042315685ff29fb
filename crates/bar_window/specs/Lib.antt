pub mod Limits
pub mod Updates
pub mod Exchange
pub mod Terms
pub mod Places
pub mod Code
pub mod WindowBytes
