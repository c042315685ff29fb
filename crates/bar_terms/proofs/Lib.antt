pub mod Segments
pub mod Lookups
pub mod Ends
pub mod Equal
pub mod Aligned
mod Worked
