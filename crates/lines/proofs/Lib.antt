pub mod Places
pub mod Digits
pub mod Columns
pub mod Lines
pub mod Requests
pub mod Answers
pub mod Spelled
