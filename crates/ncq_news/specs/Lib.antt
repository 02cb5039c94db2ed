pub mod Laws
pub mod News
