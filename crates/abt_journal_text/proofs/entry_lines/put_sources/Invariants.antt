-- The lines so far, and those of the sources that are left, are all.
use Rattle.std.proofs.Common.{◌≡◌, drop}
use Rattle.abt_journal_text.specs.Lines.{sources_lines}
use Rattle.abt_journal_text.proofs.Sending.{GoesOut}
use Rattle.abt_journal_text.proofs.entry_lines.put_sources.Given as goal

abbrev pub invariant-loop-journal : goal.invariant-loop-journal
invariant-loop-journal g l = record {
  count : l.conn ≡ l.journal-index;
  on : GoesOut (sources_lines 0 l.sources) (g.W.Write.contents l.initial.writer) (sources_lines l.conn (drop l.journal-index l.sources))
      (g.W.Write.contents l.writer);
}
