-- The set line that is written, read as a line: it says what was meant, and no line that says the same is shorter.
pub mod Fewest
pub mod Held
pub mod Indices
pub mod Laws
pub mod Naming
pub mod Price
pub mod Texts
