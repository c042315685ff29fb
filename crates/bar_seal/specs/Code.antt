-- Definitions about code: a memo of checked datagrams. The headline depends on none of them.
pub mod Memo
pub mod Places
