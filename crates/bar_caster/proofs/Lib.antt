pub mod FanoutLemmas
pub mod Given
pub mod Judged
pub mod Stepped
pub mod Short
pub mod Listing
pub mod Everyone
pub mod Pieces
pub mod Manifests
pub mod Announced
pub mod Grown
mod Begun
mod Started
pub mod Pushed
pub mod Flat
pub mod Ticked
