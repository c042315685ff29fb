pub mod Table
pub mod Code
pub mod Terms
