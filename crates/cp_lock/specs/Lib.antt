pub mod Meetings
pub mod Outcomes
pub mod Tables
