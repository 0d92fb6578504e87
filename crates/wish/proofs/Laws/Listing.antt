-- Theorems on Listing.
pub mod Beyond
pub mod Counted
pub mod Differing
pub mod Reach
pub mod Rows
pub mod Settable
pub mod Wanted
