-- What a played script and a restore list come to.
pub mod Restored
pub mod Script
