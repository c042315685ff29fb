-- Definitions about code: a window as words of flags. The headline depends on none of them.
pub mod Window
