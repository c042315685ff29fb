-- The evidence that a datagram completes.
pub mod Trials
pub mod OtherExchanges
pub mod Search
pub mod Keys
