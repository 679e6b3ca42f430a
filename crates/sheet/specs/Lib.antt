pub mod Commands
pub mod Sheets
