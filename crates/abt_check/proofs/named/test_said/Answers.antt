use Rattle.std.proofs.Common.{rules, string_bytes}
use Rattle.abt_check.proofs.named.test_said.Goals as goal

pub returns : goal.returns
returns c = record {
  skipped = c.in_ok-diagnosis.diagnosis.is_skipped;
  diagnosis = string_bytes c.in_ok-diagnosis.diagnosis.text;
  found = c.in_ok-diagnosis.ensures;
  told = search rules;
  faulty = search rules;
}
