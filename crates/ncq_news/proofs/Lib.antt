pub mod CallerLemmas
pub mod ContentLaws
pub mod FiringLaws
