pub mod Setting
pub mod Figure
pub mod Neighbour
pub mod Planning
