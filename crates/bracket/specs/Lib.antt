-- What is to be believed of the core of the bracket.
pub mod Sums
