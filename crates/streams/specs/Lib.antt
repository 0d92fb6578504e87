-- The definitions of streams.
pub mod Reading
