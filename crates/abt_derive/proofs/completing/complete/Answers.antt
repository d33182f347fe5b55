-- One entry more is kept, behind those that were derived.
use Rattle.abt_journal_text.proofs.Sending.{next_of}
use Rattle.abt_derive.proofs.Growing.{partway_start, partway_on}
use Rattle.abt_derive.proofs.completing.complete.Goals as goal

pub loop-place-init : goal.loop-place-init
loop-place-init c = partway_start c.args.first.now c.args.spots.now c.args.entries.now c.args.derived.now _ c.new.ensures.items c.new-2.ensures.items

pub loop-place-preserved : goal.loop-place-preserved
loop-place-preserved c =
    let entries = c.args.entries.now in
    let n = c.loop-place.place in
    partway_on c.args.first.now c.args.spots.now n entries c.args.derived.now _ _ _ c.loop-place.full c.add_all.new.self _
    c.index-entries-place.result c.spot_at.result c.loop-place-test.true c.index-entries-place.is
    (next_of entries n c.index-entries-place.result c.loop-place-test.true c.index-entries-place.is) c.spot_at.ensures c.loop-place.invariant
    c.parted.ensures.first c.parted.ensures.behind c.in_ok-add_all.ensures.grows c.in_ok-add_all.ensures.more
    c.in_ok-push.ensures.entries c.in_ok-push.ensures.spots
