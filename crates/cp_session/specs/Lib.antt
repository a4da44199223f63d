pub mod Index
pub mod Beats
pub mod Closings
pub mod Creation
pub mod Meetings
pub mod Rule
pub mod Tables
