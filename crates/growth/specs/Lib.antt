-- What is to be believed of the lists of an inverse that grows order by order.
pub mod Growth
-- Entries put behind lists, one position after another.
pub mod Appending
-- One coefficient, and the coefficients at one position, put behind lists.
pub mod Steps
-- A listed map, made parts by position.
pub mod Spreading
