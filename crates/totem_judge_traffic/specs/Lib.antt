pub mod Clean
pub mod Lacking
pub mod LogSets
pub mod Pending
pub mod Traffics
