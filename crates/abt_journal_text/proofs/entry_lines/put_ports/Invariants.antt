-- The lines so far, and those of the ports that are left, are all.
use Rattle.std.proofs.Common.{◌≡◌, drop}
use Rattle.abt_journal_text.specs.Lines.{ports_lines}
use Rattle.abt_journal_text.proofs.Sending.{GoesOut, lists_in}
use Rattle.abt_journal_text.proofs.entry_lines.put_ports.Given as goal

abbrev pub invariant-loop-entries : goal.invariant-loop-entries
invariant-loop-entries g l = record {
  count : l.port ≡ l.entries-index;
  on : GoesOut (ports_lines 0 (lists_in l.ports)) (g.W.Write.contents l.initial.writer) (ports_lines l.port (lists_in (drop l.entries-index l.ports)))
      (g.W.Write.contents l.writer);
}
