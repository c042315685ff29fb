pub mod Views
pub mod Others
pub mod Responses
pub mod Divulges
pub mod Kept
