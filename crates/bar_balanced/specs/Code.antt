-- Definitions about code: what functions of balanced exchanges require. The headline rests on none of them.
pub mod Balanced
