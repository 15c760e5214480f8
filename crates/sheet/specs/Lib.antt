-- What is to be believed of the sheet. Read in this order.
pub mod Sheet
pub mod Part
