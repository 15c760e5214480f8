-- A call of the kernel as the laws see it. Nothing here is a theorem.
pub mod Calls
