-- The lines that end before the rest are answered.
use Rattle.std.proofs.Common.{length, string_bytes}
use Rattle.abt_lines.proofs.Fed.{IsCut}
use Rattle.abt_lines.proofs.serving.feed.Given as goal

abbrev pub invariant-loop-line : goal.invariant-loop-line
invariant-loop-line g l =
    IsCut g.S.LineServer.steps l.fn.server l.fn.begun.number l.fn.begun.octets.items l.piece l.rest l.server l.begun.number l.begun.octets.items
    (string_bytes l.answers.made)

abbrev pub decreases-loop-line : goal.decreases-loop-line
decreases-loop-line g l = length l.rest
