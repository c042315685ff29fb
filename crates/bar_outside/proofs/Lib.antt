pub mod Contents
mod MemLists
pub mod OpenLemmas
pub mod ActionLists
pub mod Following
pub mod Ending
pub mod Untouched
pub mod Stages
pub mod StageEnds
pub mod StageRows
pub mod Appends
pub mod Unlinked
