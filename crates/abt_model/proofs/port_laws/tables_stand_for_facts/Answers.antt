use Rattle.abt_model.proofs.EveryTable.{every_row, every_total}
use Rattle.abt_model.proofs.port_laws.tables_stand_for_facts.Goals as goal

pub returns : goal.returns
returns c = record { rows = every_row; totals = every_total }
