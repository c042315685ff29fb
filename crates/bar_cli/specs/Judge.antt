-- What `judge` does, and the verdicts on evidence, which `pack` and `verify` use as well.
pub mod Judging
pub mod Plan
