pub mod BadTexts
pub mod Deep
pub mod Fronts
pub mod Named
pub mod Pieces
pub mod Positions
