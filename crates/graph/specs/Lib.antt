pub mod Graph
pub mod StopLine
pub mod inner
