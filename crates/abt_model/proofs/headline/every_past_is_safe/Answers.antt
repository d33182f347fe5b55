use Rattle.abt_model.proofs.EveryPasts.{every_safe}
use Rattle.abt_model.proofs.headline.every_past_is_safe.Goals as goal

pub returns : goal.returns
returns c = record { safe = every_safe }
