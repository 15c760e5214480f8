-- The theorems of this crate, in the order in which they rest on each other.
--
-- Places        the positions 1 to N as entries
pub mod Places
-- Uppers        a store to the upper half of a word
pub mod Uppers
-- Listing       the loops that list the positions by order
pub mod Listing
-- Taking        one sum turned into an entry
pub mod Taking
-- Drawing       sums one after another
pub mod Drawing
-- Collecting    at the places of one row of pairs
pub mod Collecting
-- Gathering     at the listed positions
pub mod Gathering
-- CollectingRows  at those of all rows
-- Gathering..   the positions by order, the least order of a product, one product of a walk
pub mod GatheringPlaces
pub mod GatheringOrders
pub mod CollectingRows
pub mod GatheringProduct
