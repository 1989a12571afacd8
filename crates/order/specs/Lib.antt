pub mod Urgency
pub mod Supplied
