-- The tables: for each public function its refusals, in the order of docs/SCOPE.md, and when each is given.
pub mod Images
pub mod Handles
pub mod Values
pub mod Parts
pub mod Walks
pub mod Verifying
