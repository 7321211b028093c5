-- The theorems.
pub mod Waiting
pub mod EndLaws
pub mod WalkedLaws
pub mod Below
pub mod FullWalkLaws
pub mod Demand
pub mod Worked
