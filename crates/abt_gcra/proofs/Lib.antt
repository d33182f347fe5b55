pub mod WindowsLemmas
pub mod PolicingLemmas
pub mod PassageLemmas
pub mod FindingLemmas
pub mod RefusalLemmas
pub mod PoliceLemmas
pub mod TakenLemmas
