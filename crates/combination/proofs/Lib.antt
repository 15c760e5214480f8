-- Of the functions:
-- CodeWritten    entries written one after another
-- CodeMultiple   the entries of a multiple
-- CodeCombine    the entries of a sum in ascending order
pub mod CodeWritten
pub mod CodeMultiple
pub mod CodeCombine
