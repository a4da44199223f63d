pub mod FrontLaws
pub mod HeaderLaws
pub mod EventLaws
pub mod ScheduleLaws
pub mod Feeds
pub mod CallFeeds
pub mod LineFeeds
