-- What `audit` does, what it prints, and what holds afterwards.
pub mod Text
pub mod Plan
pub mod Audited
