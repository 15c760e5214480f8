-- The definitions of this crate. Nothing here is a theorem.
pub mod Sum
pub mod Distinct
pub mod Polynomial
pub mod Substitution
pub mod Agreement
pub mod Check
