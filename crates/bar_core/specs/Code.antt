-- Definitions about code: the visible state of a core, and the orders that are left. The headline doesn't depend on them.
pub mod Face
pub mod Orders
