-- Term 3 of inversion: of the words that the calls write, and of the calls.
--
-- Words:
--   Undoing           a map composed with its inverse, on either side
-- The laws:
--   UndoLaw           `undo_after`, `undo_before`, `only_after`, `only_before`
-- The code:
--   Steps             the calls that a function makes are those of its law
pub mod Undoing
pub mod UndoLaw
pub mod Steps
