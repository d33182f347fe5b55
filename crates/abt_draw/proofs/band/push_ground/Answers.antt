-- The name is held when the rest was added.
use Rattle.std.proofs.lemmas.Result.{on_ok_weaker}
use Rattle.abt_draw.proofs.Banded.{name_still}
use Rattle.abt_draw.proofs.band.push_ground.Goals as goal

pub returns-clause-name : goal.returns-clause-name
returns-clause-name c =
    on_ok_weaker c.push_scale.result (λ grows. name_still c.args.actor _ _ grows c.in_ok-push_name.ensures.name) c.push_scale.ensures
