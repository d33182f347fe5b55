pub mod ChannelLemmas
pub mod FaultLemmas
pub mod RuleLemmas
pub mod BuildLemmas
pub mod PathLemmas
pub mod IndexLemmas
