use Rattle.abt_net.proofs.IndexLemmas.{IsIndexOf-nil, IsIndexOf-more, IsIndexOf-all}
use Rattle.abt_net.proofs.places.places_of.Goals as goal

pub loop-place-init : goal.loop-place-init
loop-place-init c = IsIndexOf-nil c.in_ok-places.places c.args.conns.now c.in_ok-places.ensures.empty

pub loop-place-preserved : goal.loop-place-preserved
loop-place-preserved c =
    IsIndexOf-more c.loop-place.places c.insert.new.self c.args.conns.now c.loop-place.place c.index-conns-place.result c.loop-place-test.true c.index-conns-place.is
    c.in_ok-insert.ensures.updates c.loop-place.invariant

pub returns : goal.returns
returns c = IsIndexOf-all c.loop-place.places c.args.conns.now c.loop-place.place c.loop-place-test.false c.loop-place.invariant
