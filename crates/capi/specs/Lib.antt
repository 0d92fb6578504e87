-- The definitions of capi.
pub mod Connections
pub mod Log
pub mod Panel
pub mod Port
pub mod Refusal
pub mod Restore
pub mod Rows
pub mod Turn
