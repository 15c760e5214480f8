-- The theorems of this crate, in the order in which they rest on each other.
--
-- Sources       the source of a multiplication
pub mod Sources
-- Parts         the parts of the result while multiples are added
pub mod Parts
-- Frames        what a walk leaves as it was
pub mod Frames
-- Longer        one letter more
pub mod Longer
-- Turns         the loop of a walk
pub mod Turns
