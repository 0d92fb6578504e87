-- Theorems on Turn.
pub mod Exactly
pub mod Fair
pub mod First
pub mod Kept
pub mod Laws
pub mod Making
pub mod Picking
pub mod Playable
pub mod Played
pub mod Single
pub mod TakenOut
pub mod Whole
