-- Definitions about code: writers, rooms for bytes, hashes that are being computed. The headline depends on none of them.
pub mod Held
pub mod Putting
pub mod Written
pub mod Room
pub mod Sized
pub mod Rooms
