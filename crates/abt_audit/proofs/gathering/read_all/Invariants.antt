-- The texts so far go on with those that are left.
use Rattle.std.proofs.Common.{◌≡◌, map, length}
use Rattle.std.specs.Vec.Iter.{into_iter_len, into_iter_items}
use Rattle.abt_journal_text.specs.Books.{blank}
use Rattle.abt_audit.proofs.Texts.{GoesOn}
use Rattle.abt_audit.proofs.gathering.read_all.Given as goal

abbrev pub invariant-loop-reader : goal.invariant-loop-reader
invariant-loop-reader g l = record {
  count : length (into_iter_items l.reader-iterator) ≡ into_iter_len l.reader-iterator;
  on : GoesOn 1 blank (map g.R.Read.remaining (into_iter_items l.initial.reader-iterator)) l.number l.book
      (map g.R.Read.remaining (into_iter_items l.reader-iterator));
}
