-- What a line means in a room, and the answer to it.
pub mod Answer
pub mod Asked
pub mod Fault
pub mod Meaning
pub mod Said
pub mod Told
pub mod Worked
pub mod WorkedMixer
