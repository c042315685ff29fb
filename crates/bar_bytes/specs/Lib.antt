pub mod Bytes
pub mod Tag
pub mod Code
pub use Rattle.sha2.specs.Sha256
