pub mod Cutting
pub mod Firsts
pub mod KnownJobs
pub mod Results
pub mod Soundness
