pub mod CallLaws
pub mod Examples
