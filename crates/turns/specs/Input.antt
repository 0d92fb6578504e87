-- Reading the commands of standard input: rules for its code.
pub mod Reading
