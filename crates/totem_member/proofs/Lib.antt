pub mod Common
pub mod FilledMembers
pub mod Within
pub mod Hearing
pub mod GatherFacts
pub mod Ways
