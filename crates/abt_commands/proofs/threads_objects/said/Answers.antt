-- The run is the one whose objects went out.
use Rattle.std.proofs.Common.{inr}
use Rattle.abt_commands.proofs.Results.{if_err, on_ok}
use Rattle.abt_commands.proofs.threads_objects.said.Goals as goal

pub returns-in-Ok-clause-ok : goal.returns-in-Ok-clause-ok
returns-in-Ok-clause-ok g c =
    on_ok c.put_objects.result _ _ c.put_objects.ensures.ok
    (λ says. record { run = c.in-Ok.run'; is_run = c.in-Ok.ensures.ok; says = says })

pub returns-in-Ok-clause-err : goal.returns-in-Ok-clause-err
returns-in-Ok-clause-err g c =
    if_err c.put_objects.result _ _ c.put_objects.ensures.err
    (λ fault ends. inr (record { run = c.in-Ok.run'; is_run = c.in-Ok.ensures.ok; ends = ends }))
