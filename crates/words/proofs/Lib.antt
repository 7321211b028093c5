-- The laws that the proofs cite, and what a call that leaves the walk does to its words.
pub mod WordLaws
pub mod Kept
