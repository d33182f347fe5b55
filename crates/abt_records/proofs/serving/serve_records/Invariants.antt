-- All whole records that were taken are answered.
use Rattle.abt_records.proofs.Fed.{IsCounted}
use Rattle.abt_records.proofs.serving.serve_records.Given as goal

abbrev pub invariant-loop-read : goal.invariant-loop-read
invariant-loop-read g l =
    IsCounted g.S.RecordServer.steps l.fn.server l.server l.begun.items (g.R.Read.remaining l.fn.reader) (g.R.Read.remaining l.reader)
    (g.W.Write.contents l.fn.writer) (g.W.Write.contents l.writer)
