-- What the quick test of images computes.
pub mod Quick
