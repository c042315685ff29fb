pub mod Event
pub mod Noted
