-- What the calls of the laws of inversion leave. Nothing here is a theorem.
pub mod Laws
