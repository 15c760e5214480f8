-- What is to be believed of the monomial table. Read in this order.
pub mod Enumeration
pub mod Count
pub mod Table
pub mod Difference
