-- Definitions about code: how the code represents a simulation. The headline rests on none of them.
pub mod Packets
pub mod Texts
pub mod Cores
pub mod Setups
pub mod Moves
pub mod Given
pub mod Kept
pub mod Held
pub mod Playing
pub mod Shown
