-- The theorems of this crate, in the order in which they rest on each other.
--
-- Letters       a monomial and its letters say the same; one letter more at the end
pub mod Letters
-- Remainders    what is left of a word after a beginning of it
pub mod Remainders
-- Tree          the tree of beginnings meets each monomial once
pub mod Tree
-- Beginnings    which monomials are beginnings of monomials of a polynomial
pub mod Beginnings
-- Walk          the walk is the substitution
pub mod Walk
-- Truncated     products that agree up to an order, and the walk stopped there
pub mod Truncated
-- Shorter       the beginning one letter shorter, and its code
pub mod Shorter
-- Codes         the table's words at one monomial, and at one letter more or less
pub mod Codes
-- Marking       the marks while beginnings are marked
pub mod Marking
-- Powers        the weights of the variables in a code
pub mod Powers
-- Steps         what the steps along the tree read and ask
pub mod Steps
-- SeriesMarks   the marks of the entries of one series
pub mod SeriesMarks
-- MarkingAll    the marks of series after series
pub mod MarkingAll
-- Searching     the coefficient at a position, found by halving
pub mod Searching
-- Adding        residues by position while entries are added
pub mod Adding
-- Packs         residues by position packed in place
pub mod Packs
-- Levels        products cut at an order, as images in regions
pub mod Levels
-- Regions       regions of the work slice, and sums by position, as polynomials
pub mod Regions
-- Samples       small cases, computed
pub mod Samples
