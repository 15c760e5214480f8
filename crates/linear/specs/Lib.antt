pub mod Matrix
pub mod Determinant
pub mod Columns
pub mod Answer
pub mod Elimination
