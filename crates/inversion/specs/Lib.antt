-- What is to be believed of linear parts and of inversion. Read in this order.
pub mod Linear
pub mod Undoing
pub mod Inverse
pub mod Closing
pub mod Turn
