pub mod Needs
pub mod ProofFile
pub mod Laws
pub mod Packing
