-- Thirty-two connections over one room.
pub mod Connections
pub mod Parts
pub mod Round
pub mod Serving
pub mod Survey
pub mod Turn
