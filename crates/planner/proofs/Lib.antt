pub mod Cases
pub mod ErrorLaws
pub mod NeighbourLaws
pub mod ChoiceLaws
pub mod SignedLaws
pub mod FigureLaws
pub mod Sizes
pub mod PlanningLaws
