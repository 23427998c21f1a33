pub mod Common
pub mod Telling
pub mod Growing
pub mod Entering
pub mod Agreeing
pub mod Visits
pub mod FirstLives
