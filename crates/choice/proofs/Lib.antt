pub mod Picks
pub mod Digits
pub mod TimesLaws
pub mod Settling
