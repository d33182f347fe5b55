-- Cells on lines are answered as those that are words.
use Rattle.abt_parts.proofs.Words.{cell_as, fault_as, served_as}
use Rattle.abt_node.specs.Table.{new_table}
use Rattle.abt_parts.proofs.law.lines_are_as_words.Goals as goal

pub returns-clause-port : goal.returns-clause-port
returns-clause-port c = λ capacity cells. served_as (new_table 0 capacity) 1 cells

pub returns-clause-cell : goal.returns-clause-cell
returns-clause-cell c = cell_as

pub returns-clause-fault : goal.returns-clause-fault
returns-clause-fault c = fault_as
