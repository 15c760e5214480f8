-- Theorems on the checks of these routines, and on what the calls leave.
pub mod SumImages
pub mod SumCall
pub mod MultipleCall
