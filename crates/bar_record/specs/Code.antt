-- Definitions about code: recordings as iterators. The headline rests on none of them.
pub mod Items
pub mod Inputs
