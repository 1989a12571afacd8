pub mod Replies
pub mod Stores
pub mod Steps
pub mod Starts
pub mod Runs
