-- The definitions of turns.
pub mod Command
pub mod Input
pub mod Play
