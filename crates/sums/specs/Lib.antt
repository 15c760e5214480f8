-- Sum and difference as one.
pub mod Combined
