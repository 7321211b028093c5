-- The laws that the proofs cite, and what decoded metadata says of its section.
pub mod MetadataLaws
pub mod DecodedLaws
