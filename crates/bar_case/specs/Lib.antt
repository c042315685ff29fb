pub mod Keystream
pub mod Items
pub mod Sealed
pub mod Opened
pub mod Laws
pub use Rattle.sha2.specs.Sha256
pub use Rattle.rand_chacha.specs.ChaCha
