pub mod SweepLaws
pub mod Sim
pub mod Walked
pub mod Kept
pub mod Agree
pub mod Fine
pub mod Swept
pub mod Passed
pub mod Untouched
mod Worked
