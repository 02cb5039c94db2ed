pub mod ShapeTexts
pub mod SignatureCases
pub mod SignatureLaws
pub mod CallerLemmas
