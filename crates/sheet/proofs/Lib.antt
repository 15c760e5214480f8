-- Laws that the functions' proofs share, and what the parts come to.
pub mod Inputs
pub mod Parts
pub mod Samples
