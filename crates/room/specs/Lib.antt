-- The module table of a room, and the one module that bears a label.
pub mod Label
pub mod Refusal
pub mod Table
