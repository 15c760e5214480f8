-- The theorems of this crate, in the order in which they rest on each other.
--
-- Filling       parts of one slice written one after another
pub mod Filling
-- Preparing     orders, marks and the series 1 in the work slice
pub mod Preparing
-- Listing       the inner components listed one after another
pub mod Listing
-- Summing       parts of sums as polynomials, from the constants to the images
pub mod Summing
-- Entering      the walk from the constant enters only monomials of one letter or more
pub mod Entering
-- Planning      what the preparations leave is what a walk is told
pub mod Planning
-- Substituting  the constants and the walk are the substitution
pub mod Substituting
-- Composed      from what substitution asks to what each of its steps asks and leaves
pub mod Composed
-- A component without a constant has no entry of order 0.
pub mod Origins
