-- The laws that the proofs cite.
pub mod FieldLaws
pub mod ValueLaws
pub mod TextsLaws
