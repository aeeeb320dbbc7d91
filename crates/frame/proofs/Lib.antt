pub mod FormatLaws
pub mod ParityLaws
pub mod VoteLaws
pub mod WordLaws
