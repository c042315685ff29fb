pub mod Stepwise
pub mod Mapped
pub mod OverLists
pub mod Entries
pub mod Left
