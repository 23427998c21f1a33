pub mod Common
pub mod NextChanges
pub mod Updating
pub mod Entering
pub mod Tabled
pub mod Answering
