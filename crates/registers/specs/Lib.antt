pub mod Opening
pub mod State
pub mod Answers
pub mod View
