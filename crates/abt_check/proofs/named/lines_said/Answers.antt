use Rattle.std.proofs.Common.{rules}
use Rattle.abt_check.proofs.named.lines_said.Goals as goal

pub returns : goal.returns
returns c = record {
  checked = c.in_ok-checked.checked;
  is_check = c.in_ok-checked.ensures;
  told = search rules;
  faulty = search rules;
}
