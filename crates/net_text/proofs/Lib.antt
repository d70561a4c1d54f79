pub mod ReadBack
pub mod LineLaws
pub mod TableLines
pub mod InOrder
pub mod NetLines
pub mod Examples
pub mod SameText
