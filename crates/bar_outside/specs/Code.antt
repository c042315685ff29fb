-- Definitions about code: an outside in memory, its faults, and lists of actions. The headline doesn't depend on them.
pub mod Causes
pub mod Schedule
pub mod MemSink
pub mod MemTaken
pub mod MemLink
pub mod MemFiles
pub mod Faults
pub mod Follows
pub mod Children
pub mod MemCalls
pub mod MemSpawner
pub mod OpenChildren
