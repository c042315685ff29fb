pub mod Ranges
pub mod Writing
pub mod Lists
pub mod Names
pub mod Holding
pub mod SameFindings
