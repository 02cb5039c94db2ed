pub mod ByNumber
pub mod FileLaws
pub mod SplitLaws
