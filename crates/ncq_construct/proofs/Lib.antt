pub mod ProperLaws
pub mod WrittenLaws
pub mod RowsProper
