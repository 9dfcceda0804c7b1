pub mod JoinedStarts
