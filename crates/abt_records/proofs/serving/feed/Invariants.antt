-- The records that end in the octets so far are answered.
use Rattle.std.proofs.Common.{[], take}
use Rattle.abt_records.specs.Fed.{Fed}
use Rattle.abt_records.proofs.serving.feed.Given as goal

abbrev pub invariant-loop-octet : goal.invariant-loop-octet
invariant-loop-octet g l =
    Fed g.S.RecordServer.steps l.fn.server l.fn.begun.items (take l.octet-index l.piece) l.server l.begun.items [] l.answers.made.items
