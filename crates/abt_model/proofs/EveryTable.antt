-- The tables of every past.
use Rattle.abt_model.specs.Run.{facts_after}
use Rattle.abt_model.specs.PortTable.{TotalsAreReserved, TablesHaveRows, RequestsServed, AnswersServed, ArrivalsServed, CapacitiesServed, TablesStay}
use Rattle.abt_model.specs.Promises.{EveryPast}
use Rattle.abt_model.proofs.Sums.{facts_after_lawful}
use Rattle.abt_model.proofs.Tables.{tables_have_rows, totals_reserved, tables_stay}
use Rattle.abt_model.proofs.Serving.{requests_served, answers_served, arrivals_served}
use Rattle.abt_model.proofs.Setting.{capacities_served}

pub every_row : EveryPast TablesHaveRows
every_row net events rules rates = tables_have_rows net (facts_after net events) rules

pub every_total : EveryPast TotalsAreReserved
every_total net events rules rates = totals_reserved net (facts_after net events) rules (facts_after_lawful net events rates).0

pub every_request : EveryPast RequestsServed
every_request net events rules rates = requests_served net (facts_after net events) rules (facts_after_lawful net events rates).0

pub every_answer : EveryPast AnswersServed
every_answer net events rules rates = answers_served net (facts_after net events) rules (facts_after_lawful net events rates).0

pub every_arrival : EveryPast ArrivalsServed
every_arrival net events rules rates = arrivals_served net (facts_after net events) rules (facts_after_lawful net events rates).0

pub every_capacity : EveryPast CapacitiesServed
every_capacity net events rules rates = capacities_served net (facts_after net events) rules (facts_after_lawful net events rates).0

pub every_other : EveryPast TablesStay
every_other net events rules rates = tables_stay net (facts_after net events) rules (facts_after_lawful net events rates).0
