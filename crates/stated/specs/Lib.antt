-- What is to be believed of the comparison.
pub mod Stated
