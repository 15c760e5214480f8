-- What a setting means.
pub mod Settings
-- Refusals 1 and 2.
pub mod Room
-- Refusals 6 to 9.
pub mod Inputs
-- The published table: what each call checks, answers and leaves.
pub mod Calls
