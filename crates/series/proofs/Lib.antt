-- The theorems on series and maps as words, in the order in which they rest on each other.
--
-- Verdicts      checks made one after another: all pass, or the first that declines decides
-- Entries       entries in their proper form; one list for each choice of coefficients
-- Packed        coefficients packed into entries, and found again
-- Faults        words of which none is faulty are such entries, and zeros
-- Series        the same of a whole series; the check of refusal 7
-- Positions     the monomials of positions 1 to N; agreement by positions
-- Reading       the coefficients of the polynomial that a series stands for
-- Writing       an image reads back; agreeing polynomials have one image
-- Parts         parts of equal length in one list
-- Maps          the same laws of maps, component by component
-- Constants     the check of refusal 8 and origin-fixing maps
-- Arguments     maps and series as arguments of a call
-- Combination   sum, difference and multiple, position by position
-- Samples       01's examples, computed
--
-- Of the functions:
-- Chunks         the parts of a slice that come from an iterator
-- Over           words written over a part of a list
-- CodeWords      one entry written over a part of a list, and the zeros behind the entries; an entry read
pub mod Verdicts
pub mod Entries
pub mod Packed
pub mod Faults
pub mod Series
pub mod Positions
pub mod Reading
pub mod Writing
pub mod Parts
pub mod Maps
pub mod Constants
pub mod Arguments
pub mod Combination
pub mod Samples
pub mod Chunks
pub mod Over
pub mod CodeWords
