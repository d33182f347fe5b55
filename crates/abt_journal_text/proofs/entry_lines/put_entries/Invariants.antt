-- The lines so far, and those of the entries that are left, are all.
use Rattle.std.proofs.Common.{drop}
use Rattle.abt_journal_text.specs.Lines.{entry_lines}
use Rattle.abt_journal_text.proofs.Sending.{GoesOut}
use Rattle.abt_journal_text.proofs.entry_lines.put_entries.Given as goal

abbrev pub invariant-loop-entry : goal.invariant-loop-entry
invariant-loop-entry g l =
    GoesOut (entry_lines l.conn l.entries) (g.W.Write.contents l.initial.writer) (entry_lines l.conn (drop l.entry-index l.entries)) (g.W.Write.contents l.writer)
