pub mod Early
pub mod JobRecord
pub mod Jobs
pub mod Results
pub mod Spans
pub mod Verdicts
