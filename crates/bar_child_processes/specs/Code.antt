-- Definitions about code: names and reports in the code. The headline doesn't depend on them.
pub mod Views
