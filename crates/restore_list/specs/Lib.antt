-- The restore list, measured and written.
pub mod Measuring
pub mod Writing
