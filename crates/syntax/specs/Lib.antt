-- The parts of a line: its shape, its index part, its value text.
pub mod Cause
pub mod IndexGroup
pub mod IndexPart
pub mod Shape
pub mod Value
