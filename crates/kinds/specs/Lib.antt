pub mod Barriers
pub mod Faults
pub mod Doses
