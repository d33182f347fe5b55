-- The state of a net after a past.
use Rattle.abt_net.specs.Topology.{Topology}
use Rattle.abt_model.specs.Past.{Past}
use Rattle.abt_model.specs.Traces.{rates_after, held_after, totals_after, capacities_after}
use Rattle.abt_step.specs.declared.net_state.NetState.{NetState}

-- the state after a past
abbrev pub state_after : Topology → Past → NetState
state_after net past = record {
  rates = rates_after net past;
  held = held_after net past;
  totals = totals_after net past;
  capacities = capacities_after net past;
}
