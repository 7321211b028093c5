-- Images, byte by byte, and what opening them gives.
pub mod Images
pub mod Worked
