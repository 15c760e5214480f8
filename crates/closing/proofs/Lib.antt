-- Term 3 of undoing maps, whole, and that the laws of the calls are not empty.
--
-- Term 3 of undoing maps:
--   Closing           `term-3`
-- One call:
--   Finishing         where a call finishes
-- The laws are not empty:
--   TwiceFinishes, RespectFinishes, UndoFinishes, OnlyFinishes
pub mod Closing
pub mod Finishing
pub mod TwiceFinishes
pub mod RespectFinishes
pub mod UndoFinishes
pub mod OnlyFinishes
