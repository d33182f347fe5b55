-- The reason at an entry that is there.
use Rattle.std.proofs.Common.{length, refl}
use Rattle.std.proofs.lemmas.Option.{slice_get_read}
use Rattle.abt_audit.proofs.Whys.{port_why_is}
use Rattle.abt_audit.proofs.why.entry_why.Goals as goal

pub returns : goal.returns
returns c =
    let run = c.args.run.now in
    let entries = c.args.entries.now in
    let there = c.in-Some.ensures.lookup in
    port_why_is run c.args.port c.args.place entries c.in-Some.entry.now _ c.in_ok-numbers.numbers c.in_ok-numbers.last c.in_ok-reply.reply
    (record { reason = c.in_ok-reason.reason; since = c.spot_if-since.result })
    (slice_get_read entries (length entries) c.args.place c.in-Some.entry.now refl there.3.0 there.1) refl c.in_ok-numbers.ensures.numbers
    c.in_ok-numbers.ensures.last c.in_ok-reply.ensures c.in_ok-reason.ensures c.spot_if-since.ensures
