-- What is to be believed of one turn of the inversion. Read in this order.
pub mod Vectors
pub mod Variables
pub mod High
