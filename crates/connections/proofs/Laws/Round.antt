-- Theorems on Round.
pub mod Fair
pub mod Laws
pub mod Seeking
