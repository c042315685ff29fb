-- The knowledge, and the memory, after a datagram was heard.
pub mod Exchanges
pub mod FromBroadcaster
pub mod Keys
pub mod Items
pub mod Blocks
pub mod RoomLeft
pub mod Held
