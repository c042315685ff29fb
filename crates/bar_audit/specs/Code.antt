-- Definitions about code: what an auditor keeps of recordings. The headline rests on none of them.
pub mod Found
pub mod Sides
pub mod Findings
pub mod Balance
pub mod Shown
pub mod Given
