pub mod Exact
pub mod NormalLaws
pub mod Texts
pub mod Inductions
pub mod NormalAgain
pub mod NormalMade
pub mod SortLaws
