use Rattle.abt_model.proofs.EveryPasts.{every_store_covers}
use Rattle.abt_model.proofs.headline.stores_cover_sources.Goals as goal

pub returns : goal.returns
returns c = record { spacing = every_store_covers }
