-- Theorems on Demand.
pub mod Calling
pub mod Laws
pub mod Lines
pub mod Made
pub mod Rules
pub mod Sized
pub mod Telling
pub mod Turns
