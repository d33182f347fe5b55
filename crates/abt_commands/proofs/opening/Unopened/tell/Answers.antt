-- Want of memory is told alone.
use Rattle.abt_commands.specs.declared.opening.Why.TheVariants.{Memory}
use Rattle.abt_commands.proofs.opening.Unopened.tell.Goals as goal

pub returns-in-Memory-clause-told : goal.returns-in-Memory-clause-told
returns-in-Memory-clause-told g c = record { why = Memory; told = c.tell_text.ensures }
