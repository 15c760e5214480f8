-- The theorems of this crate, in the order in which they rest on each other.
--
-- PartWords     the words of parts of a slice, one part behind another
pub mod PartWords
-- Combining     vectors replaced one after another, and the combinations that they are
pub mod Combining
-- Positions     a variable and its position
pub mod Positions
-- Starting      minus the identity map written part by part
pub mod Starting
-- LinearRows    the coefficients of the variables, and the linear part row by row
pub mod LinearRows
-- PackedParts   parts packed into images are the map that they hold
pub mod PackedParts
-- HighTerms     a map substituted into the linear part and into the terms of order 2 or more
pub mod HighTerms
-- Step          one turn of the inversion, as the code makes it
pub mod Step
