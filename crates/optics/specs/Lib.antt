-- What is to be believed of the optics.
pub mod Number
pub mod Order
