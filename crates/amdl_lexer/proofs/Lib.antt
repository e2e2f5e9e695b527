pub mod Answers
pub mod Exists
pub mod Fronts
pub mod Lexemes
pub mod Numbers
pub mod Pieces
pub mod Signs
