pub mod TableLaws
pub mod AnswerLaws
pub mod OutcomeLaws
pub mod ByNumber
