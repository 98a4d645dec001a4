pub mod JudgeLaws
pub mod OpenLaws
pub mod RunLaws
