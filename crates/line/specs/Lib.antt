-- What is to be believed of the input line.
pub mod Line
