pub mod Ring
pub mod Picked
pub mod Lists
pub mod Learns
pub mod Known
