pub mod DecimalLaws
pub mod SettingLaws
pub mod RateLaws
pub mod LengthLaws
pub mod AdviceLaws
pub mod Examples
