-- Theorems on the checker of the monomial table.
pub mod CheckDifference
pub mod CheckUpto
pub mod CheckCodes
pub mod CheckLow
pub mod CheckCounts
pub mod CheckWiden
pub mod CheckStarts
pub mod CheckSort
pub mod CheckTable
pub mod CheckBounds
pub mod CheckWhole
