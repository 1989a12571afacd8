pub mod Numbers
pub mod Text
pub mod Tally
pub mod Words
pub mod Rules
pub mod Promise
