pub mod Code
pub mod Disk
pub mod Stream
pub mod Wire
pub mod Plan
pub mod Ends
pub mod Stages
