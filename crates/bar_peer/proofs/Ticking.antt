-- What a tick sends.
pub mod OpenExchanges
pub mod Timely
pub mod Unchanged
pub mod Asking
pub mod Partner
pub mod Requests
pub mod Reports
pub mod All
