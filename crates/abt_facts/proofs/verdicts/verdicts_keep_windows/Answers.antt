use Rattle.abt_gcra.proofs.FindingLemmas.{verdict_at-is}
use Rattle.abt_facts.specs.Cells.{taken_of}
use Rattle.abt_facts.proofs.verdicts.verdicts_keep_windows.Goals as goal

pub returns : goal.returns
returns c = record { value = λ tau at held facts. verdict_at-is tau (taken_of facts) at held }
