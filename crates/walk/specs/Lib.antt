-- What is to be believed of the walk over words.
pub mod Walking
-- What one step of it does.
pub mod Stepping
