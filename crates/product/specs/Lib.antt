-- What the product core keeps in the work space, and what it computes. Read in this order.
pub mod Pairs
pub mod Regions
pub mod Rows
pub mod Multiply
pub mod List
pub mod Core
