-- The laws that the proofs cite.
pub mod StartLaws
pub mod CallLaws
mod HeldLaws
pub mod RowLaws
