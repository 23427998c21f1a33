pub mod Common
pub mod Starting
pub mod FirstLives
