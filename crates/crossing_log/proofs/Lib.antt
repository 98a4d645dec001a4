pub mod StretchLaws
pub mod TurnLaws
pub mod JudgeLaws
