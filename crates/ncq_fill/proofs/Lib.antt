pub mod FileLaws
pub mod InputFiles
pub mod ScanLaws
