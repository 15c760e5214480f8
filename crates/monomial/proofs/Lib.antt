-- Theorems on the monomial table.
pub mod Upto
pub mod Digits
pub mod Blocks
pub mod Address
pub mod Places
pub mod Pascal
pub mod Size
pub mod Words
pub mod Ascending
pub mod Samples
pub mod Bounds
