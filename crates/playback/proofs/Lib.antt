pub mod Playing
pub mod ReplayLaws
pub mod AlikeLaws
pub mod Examples
