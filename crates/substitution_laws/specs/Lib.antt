-- What the calls of the laws of substitution leave. Nothing here is a theorem.
pub mod Laws
