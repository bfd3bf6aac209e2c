pub mod ConstantReading
pub mod ExpressionReading
pub mod ExpressionAnswers
pub mod Reading
pub mod Answers
