-- What the terms of a combination are.
pub mod Terms
