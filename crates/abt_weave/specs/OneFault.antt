-- All lists of events that stand still before the same journals end alike.
use Rattle.std.specs.Prelude.{◌≡◌, ◌≢◌, List, length, All}
use Rattle.abt_net.specs.Topology.{Topology}
use Rattle.abt_model.specs.declared.event.Event.{Event}
use Rattle.abt_model.specs.Events.{AsksRate}
use Rattle.abt_weave.specs.declared.actor.Actor.{Actor}
use Rattle.abt_weave.specs.Stuck.{RunJournals, StandsStill}
use Rattle.abt_weave.specs.Actors.{IsAmong, placed_on}
use Rattle.abt_weave.specs.Faults.{IsWeaveFault}
use Rattle.abt_weave.specs.declared.fault.WeaveFault.{WeaveFault}
use Rattle.abt_weave.specs.declared.fault.WeaveFault.TheVariants.{Memory}

-- There is a journal for each port of the net, and for each source.
pub record AreJournalsOf (net : Topology) (journals : RunJournals) : Type 0 where
  pub ports : length journals.ports ≡ length net.capacities
  pub conns : length journals.sources ≡ length net.conns

-- Of each actor, all lists of events that stand still have placed equally many entries.
abbrev pub HaveOneEnd : Topology → RunJournals → Type 0
HaveOneEnd net journals =
    (one other : List Event) → All AsksRate one → All AsksRate other → StandsStill net journals one → StandsStill net journals other →
    (actor : Actor) → IsAmong (length net.conns) (length net.capacities) actor → placed_on net one actor ≡ placed_on net other actor

-- Journals that aren't woven have one fault; want of memory isn't one of theirs.
abbrev pub HaveOneFault : Topology → RunJournals → Type 0
HaveOneFault net journals =
    (one other : WeaveFault) → one ≢ Memory → other ≢ Memory → IsWeaveFault net journals one → IsWeaveFault net journals other → one ≡ other
