-- When a datagram is admitted, and when it is refused.
pub mod Tests
pub mod Rows
pub mod Namesakes
