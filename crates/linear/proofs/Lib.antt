-- Determinants over any commutative ring:
--   Lists           lists of columns
--   Ring            commutative rings and sums in them
--   Expansion       expansion row by row; rows exchanged, repeated, moved
--   Multiplicative  the determinant of a product, and the kernel law
--   Invertible      the identity matrix; an inverse on one side is one on the other, and unique
--   Adjugate        an inverse from the cofactors
-- The definitions of specs/:
--   Choices         01's sum over choices is the expansion row by row
--   Exchanges       the sign of a choice does not depend on how its columns are put in order
--   Residues        the ring of residues modulo p
--   Squares         matrices and their elements
--   Determinants    the laws of determinant, product and inverse modulo a prime
--   Examples        determinants and an inverse worked by the definitions
-- The functions:
--   Stores          what an array holds after a store
--   Times           combinations of rows, modulo p
--   Pivots          counting the columns that are taken
--   Filing          one row more in the table
--   Elimination     the first table, a row on its way, and the last table
--   Answers         what `invert` answers
pub mod Lists
pub mod Ring
pub mod Expansion
pub mod Multiplicative
pub mod Invertible
pub mod Adjugate
pub mod Choices
pub mod Exchanges
pub mod Residues
pub mod Squares
pub mod Determinants
pub mod Examples
pub mod Stores
pub mod Times
pub mod Pivots
pub mod Filing
pub mod Elimination
pub mod Answers
