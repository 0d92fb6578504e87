-- Numbers, levels, switches and routing words as text: read, measured, and written into a lent buffer.
pub mod Byte
pub mod Cut
pub mod Digits
pub mod Every
pub mod Hex
pub mod Level
pub mod Number
pub mod Switch
pub mod Word
pub mod Written
