pub mod HeldLog
