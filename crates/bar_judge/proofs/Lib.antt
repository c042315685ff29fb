mod Messages
mod Openings
pub mod TableLists
pub mod TableReading
pub mod TableWriting
pub mod TableSizes
