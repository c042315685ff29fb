pub mod Stream
pub mod Xor
pub mod Laid
pub mod Opens
pub mod OwnKey
pub mod Longer
mod Worked
pub mod Blocks
