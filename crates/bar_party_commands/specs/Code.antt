-- Definitions about code: names in the code. The headline doesn't depend on them.
pub mod Views
