-- The theorems of this crate, in the order in which they rest on each other.
--
-- HighWalk      the walk over the terms of order 2 or more is the substitution into them
pub mod HighWalk
-- Positive      entries of order 1 or more
pub mod Positive
-- Grows         the terms of a new order behind the others
pub mod Grows
-- TurnSteps     from what one turn asks to what each of its steps asks and leaves
pub mod TurnSteps
-- Ending        the listed map, written as images
pub mod Ending
-- Iterating     the turns one after another: no entry before them, the inverse after them
pub mod Iterating
