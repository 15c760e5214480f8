-- The starred samples of 01.
pub mod Rows
