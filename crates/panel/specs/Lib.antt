-- A change at a wall panel, and what is told of it.
pub mod Panel
pub mod Worked
