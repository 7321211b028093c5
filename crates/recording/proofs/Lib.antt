-- The laws that the proofs cite.
pub mod TourLaws
pub mod RunLaws
