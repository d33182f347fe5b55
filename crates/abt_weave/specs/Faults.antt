-- What each fault of weaving says.
use Rattle.std.specs.Prelude.{◌≡◌, ◌≢◌, ℕ, zero, suc, ◌<◌, nat_lt, List, [], ◌∷◌, ◌++◌, length, reverse, if◌then◌else◌, All}
use Rattle.abt_net.specs.Topology.{Topology}
use Rattle.abt_model.specs.declared.event.Event.{Event}
use Rattle.abt_model.specs.Events.{AsksRate}
use Rattle.abt_weave.specs.declared.actor.Actor.{Actor}
use Rattle.abt_weave.specs.declared.actor.Actor.TheVariants.{Source, Port}
use Rattle.abt_weave.specs.declared.actor.Stuck.{Stuck}
use Rattle.abt_weave.specs.Projections.{steps_on, entries_on}
use Rattle.abt_weave.specs.Stuck.{RunJournals, port_journal, source_journal, StandsStill, PortMismatches, SourceMismatches}
use Rattle.abt_weave.specs.Woven.{IsWoven}
use Rattle.abt_weave.specs.declared.fault.WeaveFault.{WeaveFault}
use Rattle.abt_weave.specs.declared.fault.WeaveFault.TheVariants.{Mismatch, NoOrder, Memory}

-- an actor at its place, if it has entries left
abbrev pub left_at : Actor → (place entries : ℕ) → List Stuck
left_at actor place entries = if nat_lt place entries then record { actor = actor; place = place } ∷ [] else []

abbrev pub source_left : Topology → RunJournals → List Event → ℕ → List Stuck
source_left net journals earlier c = left_at (Source c) (length (entries_on net c earlier)) (length (source_journal journals c))

abbrev pub port_left : Topology → RunJournals → List Event → ℕ → List Stuck
port_left net journals earlier p = left_at (Port p) (length (steps_on net p earlier)) (length (port_journal journals p))

-- what the actors of the numbers below one have left, in order
abbrev pub left_below : (ℕ → List Stuck) → ℕ → List Stuck
left_below left zero = []
left_below left (suc n) = left_below left n ++ left n

-- all actors that have entries left, sources before ports
abbrev pub all_left : Topology → RunJournals → List Event → List Stuck
all_left net journals earlier =
    left_below (source_left net journals earlier) (length journals.sources) ++ left_below (port_left net journals earlier) (length journals.ports)

-- The next entry of this actor mismatches, and that of none before it, sources before ports.
abbrev pub IsFirstMismatch : Topology → RunJournals → List Event → Actor → ℕ → Type 0
IsFirstMismatch net journals earlier (Source c) place =
    (place ≡ length (entries_on net c earlier)) × SourceMismatches net journals earlier c × ((d : ℕ) → d < c → SourceMismatches net journals earlier d → ⊥)
IsFirstMismatch net journals earlier (Port p) place =
    (place ≡ length (steps_on net p earlier)) × PortMismatches net journals earlier p × ((d : ℕ) → SourceMismatches net journals earlier d → ⊥)
    × ((q : ℕ) → q < p → PortMismatches net journals earlier q → ⊥)

-- the next entry of no actor mismatches
pub record NoneMismatches (net : Topology) (journals : RunJournals) (earlier : List Event) : Type 0 where
  pub sources : (c : ℕ) → SourceMismatches net journals earlier c → ⊥
  pub ports : (p : ℕ) → PortMismatches net journals earlier p → ⊥

-- Some list of events, each of whose rates a code can name, stands still. A mismatch is the first of its stuck entries that does; if none
-- does, all actors with entries left are named.
abbrev pub IsWeaveFault : Topology → RunJournals → WeaveFault → Type 0
IsWeaveFault net journals (Mismatch actor place) =
    (events : List Event) × All AsksRate events × StandsStill net journals (reverse events) × IsFirstMismatch net journals (reverse events) actor place
IsWeaveFault net journals (NoOrder stuck) =
    (events : List Event) × All AsksRate events × StandsStill net journals (reverse events) × NoneMismatches net journals (reverse events) × (stuck ≡ all_left net journals (reverse events)) × (stuck ≢ [])
IsWeaveFault net journals Memory = Unit {0}

-- no list of events, each of whose rates a code can name, is woven from the journals
abbrev pub NoneIsWoven : Topology → RunJournals → Type 0
NoneIsWoven net journals = (events : List Event) → All AsksRate events → IsWoven net journals.ports journals.sources events → ⊥

-- a fault but want of memory says so
abbrev pub SaysNoneIsWoven : Topology → RunJournals → WeaveFault → Type 0
SaysNoneIsWoven net journals (Mismatch actor place) = NoneIsWoven net journals
SaysNoneIsWoven net journals (NoOrder stuck) = NoneIsWoven net journals
SaysNoneIsWoven net journals Memory = Unit {0}
