-- Definitions about code: exchanges in slots. The headline rests on none of them.
pub mod Hearing
pub mod Order
pub mod Kept
pub mod Asking
pub mod Slots
pub mod Memory
pub mod Lookups
pub mod Totals
pub mod Recalls
pub mod Recalling
pub mod Naming
pub mod Debts
