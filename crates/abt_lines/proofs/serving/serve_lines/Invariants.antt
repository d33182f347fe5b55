-- All whole lines that were taken are answered.
use Rattle.abt_lines.proofs.Fed.{IsCounted}
use Rattle.abt_lines.proofs.serving.serve_lines.Given as goal

abbrev pub invariant-loop-read : goal.invariant-loop-read
invariant-loop-read g l =
    IsCounted g.S.LineServer.steps l.fn.server l.server l.begun.number l.begun.octets.items (g.R.Read.remaining l.fn.reader) (g.R.Read.remaining l.reader)
    (g.W.Write.contents l.fn.writer) (g.W.Write.contents l.writer) l._read
