-- Theorems on the checks of these routines, and on what the calls leave.
pub mod TableCall
