use Rattle.abt_model.proofs.EveryTable.{every_request, every_answer, every_arrival, every_capacity, every_other}
use Rattle.abt_model.proofs.port_laws.tables_follow_facts.Goals as goal

pub returns : goal.returns
returns c = record { requests = every_request; answers = every_answer; arrivals = every_arrival; capacities = every_capacity; same = every_other }
