pub mod HistoryLaws
pub mod ShapeLaws
