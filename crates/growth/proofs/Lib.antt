-- The theorems of this crate.
--
-- Growing       lists with the entries of one more order behind them
pub mod Carrying
pub mod Growing
-- Appends       entries put behind lists, one position after another
pub mod Appends
-- Orders        the positions of one order, one after another
pub mod Orders
-- Coefficients  the coefficients of entries made of numbers by position
pub mod Coefficients
-- Spreading     a listed map made parts by position
pub mod Spreading
