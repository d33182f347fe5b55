-- What a hop holds for a connection, and which events change it (docs/RULES.md, "What stays held").
use Rattle.std.specs.Prelude.{◌≡◌, ◌⊎◌, ℕ, ◌<◌, ◌≤◌, true, false, List, if◌then◌else◌}
use Rattle.abt_cell.specs.Message.{Reply}
use Rattle.abt_node.specs.declared.reply.Onward.TheVariants.{Pass, Refuse}
use Rattle.abt_node.specs.declared.reply.Back.TheVariants.{Pass as PassBack}
use Rattle.abt_net.specs.Topology.{Topology}
use Rattle.abt_facts.specs.declared.fact.Fact.{Fact}
use Rattle.abt_facts.specs.Requests.{was_asked, floor_of, ask_of}
use Rattle.abt_facts.specs.Sent.{was_passed, was_shut}
use Rattle.abt_facts.specs.Hop.{newest_of, held_of}
use Rattle.abt_model.specs.declared.event.Event.{Event}
use Rattle.abt_model.specs.declared.event.Event.TheVariants.{Request, Answer}
use Rattle.abt_model.specs.declared.outcome.Outcome.TheVariants.{Requested, Answered}
use Rattle.abt_model.specs.Past.{Past, facts_of}
use Rattle.abt_model.specs.Outcomes.{outcome_of, after_event}

-- a hop passed a request, or shut it
abbrev pub WasDecided : List Fact → (seq hop : ℕ) → Type 0
WasDecided facts seq hop = (was_passed facts seq hop ≡ true) ⊎ (was_shut facts seq hop ≡ true)

-- no request was asked under a greater number
abbrev pub IsAboveAll : List Fact → (seq : ℕ) → Type 0
IsAboveAll facts seq = (other : ℕ) → was_asked facts other ≡ true → other ≤ seq

-- what a request is held at by a hop that decided it: the rate that it asks for, and its floor once it is shut there
abbrev pub held_for : List Fact → (seq hop : ℕ) → ℕ
held_for facts seq hop = if was_shut facts seq hop then floor_of facts seq else ask_of facts seq

-- Once a request above all others is decided at a hop, the hop holds that request's rate or floor, and nothing older.
abbrev pub NothingOlderIsHeld : Topology → Past → Type 0
NothingOlderIsHeld net past =
    (c seq hop : ℕ) → IsAboveAll (facts_of c past) seq → WasDecided (facts_of c past) seq hop →
    held_of (facts_of c past) hop ≡ held_for (facts_of c past) seq hop

-- An event can change what a hop of a connection holds: a request above the hop's newest comes there, or a no to its newest.
abbrev pub CanChangeHold : List Fact → (c hop : ℕ) → Event → Type 0
CanChangeHold facts c hop (Request d j seq) = (d ≡ c) × (j ≡ hop) × (newest_of facts hop < seq)
CanChangeHold facts c hop (Answer d j seq false) = (d ≡ c) × (j ≡ hop) × (seq ≡ newest_of facts hop)
CanChangeHold facts c hop event = ⊥

-- Any other event leaves it: another ask of the source, a crash, a start, a lost message, a repeat, an answer to the source.
abbrev pub HoldsStay : Topology → Past → Type 0
HoldsStay net past =
    (event : Event) (c hop : ℕ) → ¬ CanChangeHold (facts_of c past) c hop event →
    held_of (facts_of c (after_event net past event)) hop ≡ held_of (facts_of c past) hop

-- A request that a hop passes or refuses is held then at its rate or its floor.
pub record RequestSetsHold (net : Topology) (past : Past) (c seq hop : ℕ) : Type 0 where
  pub passed : outcome_of net past (Request c hop seq) ≡ Requested Pass →
      held_of (facts_of c (after_event net past (Request c hop seq))) hop ≡ ask_of (facts_of c past) seq
  pub refused : (answer : Reply) → outcome_of net past (Request c hop seq) ≡ Requested (Refuse answer) →
      held_of (facts_of c (after_event net past (Request c hop seq))) hop ≡ floor_of (facts_of c past) seq

abbrev pub RequestsSetHolds : Topology → Past → Type 0
RequestsSetHolds net past = (c seq hop : ℕ) → RequestSetsHold net past c seq hop

-- A no that a hop passes back leaves the floor of its request.
abbrev pub NoesLeaveFloors : Topology → Past → Type 0
NoesLeaveFloors net past =
    (c seq hop : ℕ) → outcome_of net past (Answer c hop seq false) ≡ Answered PassBack →
    held_of (facts_of c (after_event net past (Answer c hop seq false))) hop ≡ floor_of (facts_of c past) seq
