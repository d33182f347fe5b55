-- The tokens so far, and those of the values that are left, are all.
use Rattle.std.proofs.Common.{◌≡◌, ◌++◌, drop, map}
use Rattle.abt_entry.specs.Written.{number_json}
use Rattle.abt_journal_text.specs.NetJson.{all_tokens}
use Rattle.abt_journal_text.proofs.net_line.put_hops.Given as goal

abbrev pub invariant-loop-hop : goal.invariant-loop-hop
invariant-loop-hop l = record {
  tokens : l.writer.tokens ++ all_tokens (map number_json (drop l.hop-index l.hops)) ≡ l.initial.writer.tokens ++ all_tokens (map number_json l.hops);
  before : l.writer.before ≡ l.initial.writer.before;
}
