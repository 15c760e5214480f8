-- The theorems of this crate.

-- sums, tests and monomials
pub mod Sums
pub mod Booleans
pub mod Monomials
pub mod Trim
-- exact laws of polynomials
pub mod Weigh
pub mod Ring
pub mod Below
pub mod Substitute
pub mod Derivative
pub mod Chain
pub mod Within
-- laws modulo p up to an order
pub mod Modulo
pub mod Agreement
pub mod Truncation
pub mod Identity
pub mod Inverse
pub mod Bracket
-- agreement by coefficients
pub mod Coefficients
pub mod Origin
pub mod Enumerate
pub mod Table
pub mod Represent
-- the test that computes, and worked samples
pub mod Sound
pub mod Samples
