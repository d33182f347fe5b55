use Rattle.abt_weave.proofs.Openings.{opening_progress}
use Rattle.abt_weave.proofs.PortEvents.{told_same}
use Rattle.abt_weave.proofs.progress.Progress.new.Goals as goal

pub returns : goal.returns
returns c = opening_progress c.args.given.now.net.now c.args.given.now.ports.now c.args.given.now.sources.now c.new-2.result.items c.in_ok-world.world
    c.in_ok-source_places.source_places.items c.in_ok-port_places.port_places.items c.in_ok-world.ensures.value c.new-2.ensures.items
    (c.in_ok-source_places.ensures.items_if_clones_equal (λ y e. e)) (c.in_ok-port_places.ensures.items_if_clones_equal (λ y e. e))
