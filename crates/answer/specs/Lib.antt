-- What a call may answer, and by which checks. Read in this order.
pub mod Refusals
pub mod Sizes
pub mod Checks
