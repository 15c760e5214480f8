-- The sizes of a setting, and the tables of these sizes.
pub mod Sizes
pub mod Tables
