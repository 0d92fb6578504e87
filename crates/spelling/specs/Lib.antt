-- How replies and set lines are spelled.
pub mod Acknowledgement
pub mod IndexText
pub mod Line
pub mod Name
pub mod Reply
pub mod Say
pub mod Text
