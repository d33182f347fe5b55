-- What is kept of a connection, as contracts see it.
use Rattle.abt_world.specs.declared.connection_state.ConnectionState.{ConnectionState}
use Rattle.abt_world.specs.ConnectionStates.{ConnectionView}

abbrev pub seen : ConnectionState → ConnectionView
seen connection = record { actor = connection.actor; index = connection.log.index }
