pub mod MadeLemmas
mod MadeOfHeld
pub mod KeyReads
mod Plays
mod Fair
mod Worked
mod Silent
mod Worlds
mod Takes
mod Idle
mod Evicted
pub mod KeyFiles
mod Started
pub mod KeyLengths
mod Leaves
mod Queues
mod Moved
mod Decided
mod Rounds
mod Begins
mod SimEnds
