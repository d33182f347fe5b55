use Rattle.std.proofs.Common.{rules}
use Rattle.abt_check.proofs.performing.check_from.Goals as goal

pub returns-in-Ok-clause-ok : goal.returns-in-Ok-clause-ok
returns-in-Ok-clause-ok g c = record {
  text = c.in_ok-said.said.octets.items;
  said = c.in_ok-said.ensures.ok;
  written = search rules;
}

pub returns-clause-err : goal.returns-clause-err
returns-clause-err g c = record {
  faulty = c.in_ok-said.said.is_faulty;
  text = c.in_ok-said.said.octets.items;
  said = c.in_ok-said.ensures.ok;
  written = search rules;
}
