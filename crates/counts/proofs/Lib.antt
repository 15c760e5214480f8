-- The table of the numbers of monomials, and a bound on powers.
pub mod Counts
pub mod Tables
