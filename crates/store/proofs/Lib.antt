pub mod Answering
pub mod Running
pub mod Opened
