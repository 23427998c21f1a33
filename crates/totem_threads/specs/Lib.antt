pub mod Words
pub mod Logging
pub mod Faults
pub mod Starts
pub mod Books
pub mod FirstLives
