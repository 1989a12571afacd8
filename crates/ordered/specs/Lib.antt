pub mod Ranks
pub mod Places
