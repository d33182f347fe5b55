-- The tokens so far, and those of the values that are left, are all.
use Rattle.std.proofs.Common.{◌≡◌, ◌++◌, drop, map}
use Rattle.abt_journal_text.specs.NetJson.{conn_json}
use Rattle.abt_journal_text.specs.NetJson.{all_tokens}
use Rattle.abt_journal_text.proofs.net_line.put_conns.Given as goal

abbrev pub invariant-loop-conn : goal.invariant-loop-conn
invariant-loop-conn l = record {
  tokens : l.writer.tokens ++ all_tokens (map conn_json (drop l.conn-index l.conns)) ≡ l.initial.writer.tokens ++ all_tokens (map conn_json l.conns);
  before : l.writer.before ≡ l.initial.writer.before;
}
