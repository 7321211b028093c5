-- The laws that the proofs cite.
pub mod TreeLaws
pub mod CheckLaws
pub mod AgeLaws
pub mod OpeningLaws
