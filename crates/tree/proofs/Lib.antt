-- The laws that the proofs cite, and cases worked by hand.
pub mod RecordLaws
pub mod LookupLaws
pub mod AnswerLaws
pub mod MarkerLaws
pub mod Worked
