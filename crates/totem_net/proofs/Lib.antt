pub mod Drawing
pub mod Waits
pub mod Walking
pub mod Numbers
