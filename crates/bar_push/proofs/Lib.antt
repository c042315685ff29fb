pub mod Offers
pub mod Held
pub mod Views
pub mod Replied
pub mod Others
pub mod ReplyKept
