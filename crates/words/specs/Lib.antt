pub mod Words
pub mod Refusals
pub mod Laws
pub mod Cases
