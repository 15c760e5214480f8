-- The checks of inversion but the last.
pub mod Origin
