-- A table goes from what is left to the text.
use Rattle.abt_scenario.proofs.Tables.{next_table, table_grows}
use Rattle.abt_scenario.proofs.writing.push_connections.Goals as goal

pub loop-conn-preserved : goal.loop-conn-preserved
loop-conn-preserved c =
    table_grows _ _ _ _ _ _ c.in_ok-push_connection.ensures
    (next_table c.args.conns.now c.loop-conn.conn-index c.conn-item.result c.loop-conn-test.true c.conn-item.is) c.loop-conn.invariant
