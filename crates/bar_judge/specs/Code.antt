-- Definitions about code: parts of datagrams, table files and verdicts in the code. The headline rests on none of them.
pub mod Verdicts
pub mod Parts
pub mod TableViews
