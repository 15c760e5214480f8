-- What holds of a call that finished.
--
-- Words:
--   Words             series and maps of a setting, and what the calls write
-- One call:
--   Rooms             slices among those that passed refusals 1 and 2
--   Inputs            refusals 6 to 9 in terms of series and maps
--   FinishedCalls     what holds of a call that finished
-- The code:
--   Steps             a call with the answer whether it finished
pub mod Words
pub mod Rooms
pub mod Inputs
pub mod FinishedCalls
pub mod Steps
