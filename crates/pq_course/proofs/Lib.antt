pub mod CourseLemmas
pub mod FeedLemmas
pub mod FileLemmas
pub mod PartLemmas
pub mod ReadingLemmas
