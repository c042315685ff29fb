-- Definitions about code: chains in lanes, and remembered chain values. The headline depends on none of them.
pub mod Lanes
pub mod Order
pub mod Remembered
