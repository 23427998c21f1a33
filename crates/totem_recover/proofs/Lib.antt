pub mod Common
pub mod RingLives
pub mod Reported
pub mod Leaving
pub mod Together
pub mod OwedOnes
