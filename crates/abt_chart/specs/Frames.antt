-- What ports hold and sources shape at, between the events of a run (docs/PICTURES.md, "Bands").
use Rattle.std.specs.Prelude.{◌≡◌, ℕ, zero, suc, ◌≤◌, List, [], ◌∷◌, length, Some, map, min, sum, slice_get}
use Rattle.std.specs.List.{enumerate_from}
use Rattle.abt_facts.specs.declared.fact.Fact.{Fact}
use Rattle.abt_facts.specs.Hop.{held_of}
use Rattle.abt_model.specs.Outcomes.{after_event}
use Rattle.abt_model.specs.Past.{Past, facts_of}
use Rattle.abt_model.specs.Reserved.{held_on}
use Rattle.abt_model.specs.declared.event.Event.{Event}
use Rattle.abt_net.specs.Topology.{Topology}
use Rattle.abt_model.specs.Traces.{rates_after, capacities_after}
use Rattle.abt_chart.specs.declared.frame.Frame.{Frame}

-- what each connection holds on a port, the first connection's first: the stack of the port
abbrev pub stack_after : Topology → Past → ℕ → List ℕ
stack_after net past p = map (λ numbered. held_on (facts_of numbered.0 past) numbered.1.path p) (enumerate_from 0 net.conns)

-- the stack of each port
abbrev pub stacks_after : Topology → Past → List (List ℕ)
stacks_after net past = map (λ numbered. stack_after net past numbered.0) (enumerate_from 0 net.capacities)

-- the least that the first so many hops of a path hold, 0 if there is none
abbrev pub least_held : List Fact → (hops : ℕ) → ℕ
least_held facts zero = 0
least_held facts (suc zero) = held_of facts 1
least_held facts (suc (suc n)) = min (least_held facts (suc n)) (held_of facts (suc (suc n)))

-- the least that a hop of its path holds for each connection
abbrev pub leasts_after : Topology → Past → List ℕ
leasts_after net past = map (λ numbered. least_held (facts_of numbered.0 past) (length numbered.1.path)) (enumerate_from 0 net.conns)

-- what stands in a picture at a moment of a run
abbrev pub frame_after : Topology → Past → Frame
frame_after net past = record {
  rates = rates_after net past;
  leasts = leasts_after net past;
  stacks = stacks_after net past;
  capacities = capacities_after net past;
}

-- the frame after a past, and those after each of these events
abbrev pub frames_from : Topology → Past → List Event → List Frame
frames_from net past [] = frame_after net past ∷ []
frames_from net past (event ∷ events) = frame_after net past ∷ frames_from net (after_event net past event) events

-- No stack is above its port's capacity, and no rate above the least that a hop of its path holds for it.
pub record StandsBelow (frame : Frame) : Type 0 where
  pub stacks : (p capacity : ℕ) (stack : List ℕ) → slice_get frame.stacks p ≡ Some stack → slice_get frame.capacities p ≡ Some capacity → sum stack ≤ capacity
  pub rates : (c rate least : ℕ) → slice_get frame.rates c ≡ Some rate → slice_get frame.leasts c ≡ Some least → rate ≤ least
