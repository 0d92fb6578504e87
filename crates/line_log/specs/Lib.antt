-- The label that the log shows of a line.
pub mod Log
pub mod LogPart
