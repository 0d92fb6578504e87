-- Theorems on Lines.
pub mod Price
pub mod Promise
pub mod Routes
