-- Theorems on Play.
pub mod Refused
