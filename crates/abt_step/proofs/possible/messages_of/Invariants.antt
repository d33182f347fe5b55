-- The events of the requests so far.
use Rattle.std.proofs.Common.{◌≡◌, take}
use Rattle.abt_model.specs.Past.{Past}
use Rattle.abt_net.specs.Topology.{Topology}
use Rattle.abt_reason.specs.Sightings.{AreSightings}
use Rattle.abt_step.specs.Possible.{messages_at}
use Rattle.abt_step.proofs.possible.messages_of.Given as goal

abbrev pub invariant-loop-ask : goal.invariant-loop-ask
invariant-loop-ask l = (net : Topology) (past : Past) → AreSightings net past l.sightings →
    l.messages ≡ messages_at net past (take l.ask-index l.asks)
