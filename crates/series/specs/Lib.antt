-- What is to be believed of series and maps as words. Read in this order.
pub mod Image
pub mod Series
pub mod Over
pub mod Faults
pub mod Arguments
