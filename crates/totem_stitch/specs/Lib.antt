pub mod Followers
pub mod Tables
pub mod Stitched
pub mod Building
