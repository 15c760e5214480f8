-- The undoing maps of a setting. Nothing here is a theorem.
pub mod Undoing
