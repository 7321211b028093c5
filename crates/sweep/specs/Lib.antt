-- The definitions that the contracts and the laws cite.
pub mod Sweep
pub mod Sound
pub mod Pass
