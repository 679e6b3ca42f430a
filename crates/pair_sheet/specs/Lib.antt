pub mod Pairs
pub mod Sheets
pub mod Promised
