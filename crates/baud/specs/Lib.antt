pub mod Decimal
pub mod Setting
pub mod Rate
pub mod Length
pub mod Advice
