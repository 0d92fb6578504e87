-- The definitions of port.
pub mod Input
