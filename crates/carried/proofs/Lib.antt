-- The theorems.
pub mod Paused
pub mod Rooms
pub mod InShape
pub mod Worked
