-- How a datagram is answered.
pub mod NoExchange
pub mod Stale
pub mod PushReply
pub mod ByKind
pub mod Sayable
pub mod Answering
