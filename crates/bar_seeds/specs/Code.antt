-- Definitions about code: the last seed of each peer. The headline depends on none of them.
pub mod Checkpoints
