use Rattle.abt_model.proofs.EveryPasts.{every_rates_wait, every_yes_stands}
use Rattle.abt_model.proofs.headline.rates_wait_for_answers.Goals as goal

pub returns : goal.returns
returns c = record { floors = every_rates_wait; yes = every_yes_stands }
