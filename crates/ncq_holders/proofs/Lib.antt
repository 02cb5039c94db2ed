pub mod HolderLaws
pub mod CallerLemmas
