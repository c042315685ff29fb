pub mod Recordings
pub mod Code
pub mod Exchanges
pub mod Listed
pub mod Runs
pub mod Laws
pub mod Audits
pub mod Worlds
