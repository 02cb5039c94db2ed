pub mod GainLaws
pub mod GroupLaws
pub mod KeyLaws
pub mod PassedLaws
pub mod ReaderLaws
pub mod TableLaws
