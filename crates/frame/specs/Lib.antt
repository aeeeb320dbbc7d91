pub mod Format
pub mod Parity
pub mod Word
pub mod Vote
