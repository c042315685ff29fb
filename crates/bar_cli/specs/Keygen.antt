-- What `keygen` and `hsskeygen` do, and which types their arguments name.
pub mod Types
pub mod Plan
