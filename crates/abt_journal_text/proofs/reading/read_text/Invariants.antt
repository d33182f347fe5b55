-- What was read so far goes on.
use Rattle.abt_journal_text.proofs.Readers.{IsUnderWay}
use Rattle.abt_journal_text.proofs.reading.read_text.Given as goal

abbrev pub invariant-loop-read : goal.invariant-loop-read
invariant-loop-read g l =
    IsUnderWay l.number l.fn.book (g.R.Read.remaining l.fn.reader) (g.R.Read.remaining l.reader) l.begun.spot l.book l.begun.octets.items
