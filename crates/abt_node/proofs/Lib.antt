pub mod RowsLemmas
pub mod IndexLemmas
pub mod ServedLemmas
pub mod RuleLemmas
pub mod TableLemmas
