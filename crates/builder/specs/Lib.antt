-- What the functions of the builder hand on to each other.
pub mod Build
