pub mod SessionData
pub mod Limits
pub mod Sessions
pub mod Time
pub mod Fits
pub mod Points
