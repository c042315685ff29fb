pub mod Code
pub mod Texts
pub mod TableFile
