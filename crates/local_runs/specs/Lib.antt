pub mod LocalRun
