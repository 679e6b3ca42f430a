pub mod Plan
pub mod Printed
