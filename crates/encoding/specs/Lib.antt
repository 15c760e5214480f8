-- What is to be believed of the C interface.
pub mod Encoding
