-- The chosen modules and their wanted values, and the restore list as a definition.
pub mod Listing
pub mod Target
