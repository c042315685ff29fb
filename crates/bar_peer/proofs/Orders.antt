-- The effects of orders, one after the other.
pub mod CarryingOut
pub mod Sendings
pub mod Growth
pub mod Outcomes
pub mod Repeats
pub mod Recency
pub mod Unlogged
pub mod Silence
