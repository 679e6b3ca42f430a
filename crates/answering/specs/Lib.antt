pub mod Faults
pub mod Sheets
pub mod Runs
