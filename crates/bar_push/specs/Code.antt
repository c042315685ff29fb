-- Definitions about code: what functions of pushes require and return. The headline rests on none of them.
pub mod Chosen
