pub mod Admitting
pub mod Hearing
pub mod Faults
pub mod Orders
pub mod Replying
pub mod Ticking
pub mod Giving
pub mod Stepping
