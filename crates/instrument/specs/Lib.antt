-- What is to be believed of the instrument.
pub mod Composed
