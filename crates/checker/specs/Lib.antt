-- The parts of the table, as the checker compares them.
pub mod CheckParts
