pub mod Format
pub mod Reading
pub mod Loading
pub mod Ends
pub mod Encoding
