-- What is to be believed of the lines of the sheet. Read in this order.
pub mod Decimal
pub mod Writing
pub mod Text
