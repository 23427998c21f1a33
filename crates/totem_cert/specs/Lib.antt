pub mod Search
pub mod Progress
pub mod Answer
pub mod Visited
pub mod Laws
pub mod Counts
pub mod Firsts
pub mod Heads
