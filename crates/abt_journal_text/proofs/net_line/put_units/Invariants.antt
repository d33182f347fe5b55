-- The tokens so far, and those of the values that are left, are all.
use Rattle.std.proofs.Common.{◌≡◌, ◌++◌, drop, map}
use Rattle.abt_entry.specs.Written.{number_json}
use Rattle.abt_journal_text.specs.NetJson.{all_tokens}
use Rattle.abt_journal_text.proofs.net_line.put_units.Given as goal

abbrev pub invariant-loop-units : goal.invariant-loop-units
invariant-loop-units l = record {
  tokens : l.writer.tokens ++ all_tokens (map number_json (drop l.units-index l.capacities)) ≡ l.initial.writer.tokens ++ all_tokens (map number_json l.capacities);
  before : l.writer.before ≡ l.initial.writer.before;
}
