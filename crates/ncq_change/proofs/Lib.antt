pub mod CallerLemmas
pub mod CommitLaws
pub mod OneSource
pub mod ScanLaws
