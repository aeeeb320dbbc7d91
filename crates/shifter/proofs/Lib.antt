pub mod Laws
pub mod Byte
pub mod Joined
pub mod ExchangeLaws
pub mod Carried
