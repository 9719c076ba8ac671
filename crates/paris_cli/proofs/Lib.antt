pub mod RefusedWords
pub mod TakenWords
