pub mod TracedRun
