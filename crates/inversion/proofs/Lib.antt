-- The theorems on linear parts and inversion, in the order in which they rest on each other.
--
-- Polynomials:
--   Sums         sums below v modulo p; a matrix times its inverse
--   Combination  combinations of the components of a map
--   Affine       below order 2 a polynomial is its constant and its linear part
--   LinearPart   linear parts of compositions and of the identity map; refusal 9
--   Graded       products of maps that agree below an order
--   Expansion    what a change of the inner map changes, to first order
--   Turn         one turn of the inversion gains one order
--   Inverse      term 3 of polynomials: one undoing map on both sides, or none
-- Words:
--   Words        origin-fixing maps and the tests of undoing, as words and as polynomials
--   Lists        every list of k members of a list, each once; those that pass a test
--   Rows         maps of given coefficients
--   FixingMaps   the list of all origin-fixing maps
--   Counting     term 3 of words: the undoing maps, counted, and the one that inversion returns
--   Closing      term 3 from the checks of a call alone; a map that composes to the identity map is
--                the one that inversion returns
--   Loop         the invariant of the inversion, on words
--   Places       linear parts and turns by positions, as code reads and writes them
--   Samples      01's samples, computed
pub mod Sums
pub mod Combination
pub mod Affine
pub mod LinearPart
pub mod Graded
pub mod Expansion
pub mod Turn
pub mod Inverse
pub mod Words
pub mod Lists
pub mod Rows
pub mod FixingMaps
pub mod Counting
pub mod Closing
pub mod Loop
pub mod Places
pub mod Samples
