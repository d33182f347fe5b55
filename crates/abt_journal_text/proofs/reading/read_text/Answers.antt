-- Each read goes on.
use Rattle.std.proofs.Common.{take}
use Rattle.abt_journal_text.proofs.Readers.{under_way_first, under_way_more, read_whole, unread_in_piece, on_ok, if_err}
use Rattle.std.proofs.Common.{inl}
use Rattle.abt_journal_text.proofs.reading.read_text.Goals as goal

pub loop-read-init : goal.loop-read-init
loop-read-init g c =
    under_way_first c.args.number c.args.book.now (g.R.Read.remaining c.args.reader.now) _ _ _ c.new-begun.ensures.spot c.begin_text.ensures c.new-begun.ensures.octets

pub loop-read-preserved : goal.loop-read-preserved
loop-read-preserved g c =
    under_way_more _ _ _ _ _ _ _ _ _ _ _ (take c.in-Ok.count c.read_some.new.room) c.loop-read.invariant c.in-Ok.ensures.ok c.in_default.ensures.ok

pub returns-then-count-eq0-clause-ok : goal.returns-then-count-eq0-clause-ok
returns-then-count-eq0-clause-ok g c =
    on_ok _ _ _ c.end_text.ensures.ok (λ r. read_whole _ _ _ _ _ _ _ _ _ c.loop-read.invariant (rw c.if-count-eq0.true at c.in-Ok.ensures.ok)
    (c.in-Ok.ensures.end c.if-count-eq0.true) r)

pub returns-then-count-eq0-clause-err : goal.returns-then-count-eq0-clause-err
returns-then-count-eq0-clause-err g c = if_err _ _ _ c.end_text.ensures.err (λ fault own. inl own)

pub returns-in-Err-feed-clause-err : goal.returns-in-Err-feed-clause-err
returns-in-Err-feed-clause-err g c =
    unread_in_piece _ _ c.in-Err-feed.fault _ _ _ _ _ _ (take c.in-Ok.count c.read_some.new.room) c.loop-read.invariant c.in-Ok.ensures.ok c.in-Err-feed.ensures.err
