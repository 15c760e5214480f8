-- Theorems on the shared checks.
-- RoomLaws     1 and 2: where they pass, and what then holds
pub mod RoomLaws
-- TablePassed  a table that passed, and what the cores write
pub mod TablePassed
-- InputLaws    6 to 8: where they pass, and what then holds
pub mod InputLaws
-- CallLaws     what a call leaves
pub mod CallLaws
-- WorkSpace    what work space has room for
pub mod WorkSpace
-- Samples      the example of refusal 2
pub mod Samples
