pub mod SoFar
pub mod Same
pub mod Links
pub mod WhyLaws
