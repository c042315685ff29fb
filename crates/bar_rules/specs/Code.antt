-- Definitions about code: how a party gives out what it sends. The headline rests on none of them.
pub mod Giving
