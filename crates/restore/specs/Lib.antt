-- The restore call, with demand 3 in its contract.
pub mod Demand
pub mod Restored
pub mod Worked
pub mod WorkedMixer
