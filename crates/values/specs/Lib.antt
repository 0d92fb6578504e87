-- The value list of a room: which parameter each value is of, and which lists are right.
pub mod Control
pub mod Parameters
pub mod Permit
pub mod Room
pub mod Settable
pub mod Starts
pub mod Values
