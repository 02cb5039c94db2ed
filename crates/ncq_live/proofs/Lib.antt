pub mod CallerLemmas
mod Users
mod LiveTableLaws
mod PinLaws
pub mod ShareLaws
pub mod TurnLaws
pub mod UndoLaws
mod WearLaws
