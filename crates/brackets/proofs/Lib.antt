-- Theorems on the checks of this routine, and on what a call leaves.
pub mod BracketCall
