pub mod Examples
pub mod LinesRead
pub mod PiecesFed
pub mod ReadingLaws
pub mod TextWritten
