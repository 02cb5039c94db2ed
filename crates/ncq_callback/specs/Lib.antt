pub mod Facts
pub mod Gathered
pub mod KeptTexts
pub mod Labels
pub mod LastAnswers
pub mod Texts
