-- Theorems on Single.
pub mod Rules
