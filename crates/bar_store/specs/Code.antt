-- Definitions about code: held blocks and manifests. The headline rests on none of them.
pub mod Rooms
pub mod Held
pub mod Holds
pub mod Knowing
pub mod Windows
