pub mod Made
pub mod Network
pub mod Sim
pub mod Ends
pub mod Laws
pub mod Code
pub mod Keys
pub mod Lies
