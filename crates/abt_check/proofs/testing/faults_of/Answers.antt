use Rattle.std.proofs.Common.{rules}
use Rattle.abt_check.proofs.testing.faults_of.Goals as goal

pub returns : goal.returns
returns c = record {
  faults = c.in_ok-checked.checked.faults.items;
  some = search rules;
  are_faults = c.in_ok-checked.ensures;
  told = search rules;
}
