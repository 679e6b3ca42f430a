pub mod Calls
pub mod Promised
