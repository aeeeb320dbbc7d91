pub mod Replay
pub mod Meaning
pub mod Showing
