use Rattle.abt_model.proofs.EveryPasts.{every_never_disputes, every_one_answer}
use Rattle.abt_model.proofs.headline.messages_agree.Goals as goal

pub returns : goal.returns
returns c = record { drops = every_never_disputes; answers = every_one_answer }
