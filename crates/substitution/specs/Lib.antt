-- What is to be believed of substitution by a walk. Read in this order.
pub mod Walk
pub mod Marks
pub mod Accumulate
pub mod Levels
