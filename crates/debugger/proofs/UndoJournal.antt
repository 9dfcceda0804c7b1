pub mod RingLemmas
pub mod FormerWordLemmas
pub mod MemberLemmas
pub mod PastLemmas
pub mod CutLemmas
pub mod KeptJournals
