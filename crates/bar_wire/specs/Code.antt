-- Definitions about code: datagrams as they are read and written in place. The headline depends on none of them.
pub mod Views
pub mod Sides
pub mod Words
pub mod Windows
pub mod Reading
pub mod Terms
pub mod Headers
pub mod Writing
