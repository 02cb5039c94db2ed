pub mod DistinctLaws
pub mod GroupLaws
pub mod LineLaws
pub mod LoadLaws
pub mod LengthLaws
