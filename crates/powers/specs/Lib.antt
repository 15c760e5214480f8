-- One product of a walk, and the positions by order.
pub mod Powers
-- The loop that lists the positions by order.
pub mod Positions
-- Sums turned into entries, at the positions by order.
pub mod Gathering
-- The same by the pairs.
pub mod Collecting
