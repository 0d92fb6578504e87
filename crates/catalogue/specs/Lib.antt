-- The catalogue: the rows of the module types, which values each permits, and the one constant table.
pub mod Catalogue
pub mod Groups
pub mod Mixer
pub mod Row
