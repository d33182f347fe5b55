use Rattle.std.proofs.Common.{◌≡◌, map, take}
use Rattle.abt_world.specs.declared.connection_state.ConnectionState.{ConnectionState}
use Rattle.abt_world.proofs.ends.rates_of.Given as goal

abbrev pub invariant-loop-connection : goal.invariant-loop-connection
invariant-loop-connection l = l.rates ≡ map (λ (connection : ConnectionState). connection.actor.source.rate) (take l.connection-index l.connections)
