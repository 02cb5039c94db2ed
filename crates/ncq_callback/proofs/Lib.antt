pub mod FewLaws
pub mod LabelLaws
pub mod LastLaws
pub mod SharingLaws
pub mod TellLaws
