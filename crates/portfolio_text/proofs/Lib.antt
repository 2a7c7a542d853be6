pub mod Blanks
pub mod EntryTurns
pub mod Utf8Lines
pub mod LineWords
