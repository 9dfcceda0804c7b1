pub mod BlockCounts
