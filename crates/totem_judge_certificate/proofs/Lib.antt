pub mod Common
pub mod Ascent
pub mod Entering
pub mod Naming
pub mod Walking
pub mod Passing
pub mod Spreading
pub mod Faulty
