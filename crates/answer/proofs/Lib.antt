-- Theorems on answers and checks.
pub mod Laws
pub mod Passing
pub mod Samples
