pub mod Calls
pub mod Baud
