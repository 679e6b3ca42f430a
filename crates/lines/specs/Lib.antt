pub mod Columns
pub mod Lines
pub mod CommandSets
pub mod Commands
pub mod Requests
pub mod Answers
