pub mod Order
pub mod Edge
pub mod Exchange
pub mod Byte
pub mod Carrier
