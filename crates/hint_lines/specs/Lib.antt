pub mod HintTexts
pub mod LinesLeft
pub mod Counted
