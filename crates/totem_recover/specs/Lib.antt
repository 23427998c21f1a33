pub mod Lives
pub mod Exchange
pub mod Finish
pub mod Together
pub mod Owed
