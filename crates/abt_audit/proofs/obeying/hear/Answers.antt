-- The answer is to the request that the source waits for.
use Rattle.std.proofs.Common.{rules, subst}
use Rattle.abt_cell.specs.Message.{Reply}
use Rattle.abt_model.specs.declared.command.SourceCommand.TheVariants.{Told}
use Rattle.abt_actor.specs.Actor.{CarriesOut}
use Rattle.abt_audit.proofs.Heard.{hears}
use Rattle.abt_audit.proofs.obeying.hear.Goals as goal

pub returns-in-Repeated : goal.returns-in-Repeated
returns-in-Repeated c = λ vc facts is.
    hears vc facts c.args.actor.now c.step.new.self c.step-in-Repeated.new.self c.args.seq c.args.granted c.in-Repeated.request c.step-in-Repeated.result
    is (search rules) (rw c.in-Repeated.is at c.step.ensures)
    (subst (λ (answer : Reply). CarriesOut c.step.new.self (Told answer) c.step-in-Repeated.result c.step-in-Repeated.new.self) c.of.ensures c.step-in-Repeated.ensures)
