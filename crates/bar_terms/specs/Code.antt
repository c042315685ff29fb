-- Definitions about code: tables as the code keeps them. The headline depends on none of them.
pub mod Room
pub mod Windows
pub mod Known
