pub mod Laws
pub mod Scalars
pub mod Worked
