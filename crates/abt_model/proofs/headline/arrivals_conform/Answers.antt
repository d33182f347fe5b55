use Rattle.abt_model.proofs.EveryPasts.{every_arrival_conforms, every_next_is_due, every_arrival_in_range, every_cell_apart}
use Rattle.abt_model.proofs.headline.arrivals_conform.Goals as goal

pub returns : goal.returns
returns c = record { verdicts = every_arrival_conforms; due = every_next_is_due; in_range = every_arrival_in_range; apart = every_cell_apart }
