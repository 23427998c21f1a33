pub mod Gathers
pub mod Commits
pub mod MemberFaults
pub mod Steps
pub mod Acts
