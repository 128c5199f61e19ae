pub mod AnswerLines
pub mod LineGrammar
pub mod Schedule
