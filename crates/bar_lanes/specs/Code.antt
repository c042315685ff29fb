-- Definitions about code: eight hashes side by side. The headline depends on none of them.
pub mod Lane
