pub mod Cases
pub mod HoldLaws
