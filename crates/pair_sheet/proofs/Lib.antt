pub mod Called
pub mod Pairs
pub mod Promised
