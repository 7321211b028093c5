-- Images, byte by byte, and what verifying them gives.
pub mod Worked
