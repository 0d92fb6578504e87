-- Writing the restore list: rules for its code, a line, a module's rows, a module, and the whole.
pub mod Line
pub mod OneModule
pub mod Rows
pub mod Whole
