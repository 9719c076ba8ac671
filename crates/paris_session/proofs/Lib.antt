pub mod ReplyLemmas
pub mod AnswerLemmas
pub mod ScriptLemmas
pub mod LineLemmas
pub mod Reading
pub mod WholeLemmas
pub mod States
