-- Substitution and composition as one.
pub mod Outer
