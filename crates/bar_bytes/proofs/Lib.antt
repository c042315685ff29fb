pub mod Lengths
pub mod EmptyRooms
pub mod Tests
pub mod Options
