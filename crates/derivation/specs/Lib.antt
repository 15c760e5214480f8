-- The derivative of a series, word by word.
pub mod Derivative
