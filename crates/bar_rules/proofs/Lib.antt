mod Worked
mod WorkedVerdicts
mod WorkedBroadcast
mod WorkedDebts
pub mod LongerRuns
pub mod TermWindows
pub mod EqualTerms
pub mod Shared
pub mod Single
pub mod Inserted
pub mod Rising
