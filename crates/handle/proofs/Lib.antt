-- The laws that the proofs cite, and cases worked by hand.
pub mod HandleLaws
pub mod Worked
