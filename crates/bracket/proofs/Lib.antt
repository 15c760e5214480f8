-- Theorems on the bracket.
pub mod Growing
pub mod Adding
pub mod Pairing
pub mod Finishing
