-- The laws that the proofs here cite, and lines worked by hand.
pub mod DigitLaws
pub mod LineLaws
pub mod Worked
