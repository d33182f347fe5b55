-- The lines so far, and those of the steps that are left, are all.
use Rattle.std.proofs.Common.{drop}
use Rattle.abt_journal_text.specs.Lines.{step_lines}
use Rattle.abt_journal_text.proofs.Sending.{GoesOut}
use Rattle.abt_journal_text.proofs.entry_lines.put_steps.Given as goal

abbrev pub invariant-loop-entry : goal.invariant-loop-entry
invariant-loop-entry g l =
    GoesOut (step_lines l.port l.entries) (g.W.Write.contents l.initial.writer) (step_lines l.port (drop l.entry-index l.entries)) (g.W.Write.contents l.writer)
