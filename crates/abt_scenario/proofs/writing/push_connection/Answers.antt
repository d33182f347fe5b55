-- Three pieces make the table.
use Rattle.abt_scenario.proofs.Tables.{three}
use Rattle.abt_scenario.proofs.writing.push_connection.Goals as goal

pub returns : goal.returns
returns c =
    three _ _ _ _ _ _ _ c.in_ok-push_head.ensures (rw c.as_slice.ensures at c.in_ok-push_path.ensures) c.in_ok-push_tail.ensures
