-- Each text goes on with those that are left.
use Rattle.std.proofs.Common.{◌≡◌, ◌∷◌, rules, arith, map}
use Rattle.std.specs.Vec.Iter.{into_iter_items}
use Rattle.std.proofs.lemmas.Grind.{common_steps}
use Rattle.abt_journal_text.specs.Books.{blank}
use Rattle.abt_audit.proofs.Texts.{texts_begin, text_goes_on, text_fails}
use Rattle.abt_audit.proofs.gathering.read_all.Goals as goal

pub loop-reader-init : goal.loop-reader-init
loop-reader-init g c = record { count = search rules; on = texts_begin 1 _ _ _ c.new-book.ensures }

pub loop-reader-preserved : goal.loop-reader-preserved
loop-reader-preserved g c =
    let next : into_iter_items c.loop-reader.reader-iterator ≡ c.in-Some.reader ∷ into_iter_items c.next.new.self = search rules in record {
      count = grind (arith, common_steps);
      on = rw c.in-Some-checked_add.ensures.1 (text_goes_on 1 c.loop-reader.number blank c.loop-reader.book c.read_text.new.book
          (map g.R.Read.remaining (into_iter_items c.into_iter-reader-iterator.result)) (map g.R.Read.remaining (into_iter_items c.next.new.self))
          (g.R.Read.remaining c.in-Some.reader) (rw next at c.loop-reader.invariant.on) c.in_default.ensures.ok);
    }

pub returns-in-Err-clause-err : goal.returns-in-Err-clause-err
returns-in-Err-clause-err g c =
    let next : into_iter_items c.loop-reader.reader-iterator ≡ c.in-Some.reader ∷ into_iter_items c.next.new.self = search rules in
    let same : into_iter_items c.into_iter-reader-iterator.result ≡ c.args.readers.items = search rules in
    rw (← same) (text_fails 1 c.loop-reader.number blank c.loop-reader.book
    (map g.R.Read.remaining (into_iter_items c.into_iter-reader-iterator.result)) (map g.R.Read.remaining (into_iter_items c.next.new.self))
    (g.R.Read.remaining c.in-Some.reader) c.in-Err.fault (rw next at c.loop-reader.invariant.on) c.in-Err.ensures.err)
