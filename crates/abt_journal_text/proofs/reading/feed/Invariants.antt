-- What was taken so far goes on.
use Rattle.std.proofs.Common.{take}
use Rattle.abt_journal_text.specs.Texts.{GoesOn}
use Rattle.abt_journal_text.proofs.reading.feed.Given as goal

abbrev pub invariant-loop-octet : goal.invariant-loop-octet
invariant-loop-octet l =
    GoesOn l.fn.begun.spot l.fn.book l.fn.begun.octets.items (take l.octet-index l.piece) l.begun.spot l.book l.begun.octets.items
