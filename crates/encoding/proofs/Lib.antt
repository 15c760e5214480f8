-- Fits       a verdict whose numbers fit their bits is read back whole
-- CheckFits  the verdict of each check fits
-- Faithful   every answer tells the whole outcome
pub mod Fits
pub mod CheckFits
pub mod Faithful
