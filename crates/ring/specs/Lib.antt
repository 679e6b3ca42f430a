pub mod Arcs
pub mod Calls
pub mod Count
pub mod Sound
pub mod View
pub mod Inside
pub mod Laws
pub mod Printed
