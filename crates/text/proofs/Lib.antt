-- Laws that the functions' proofs share.
pub mod Decimals
pub mod Writings
pub mod Rows
pub mod Tables
