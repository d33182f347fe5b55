-- The headline holds of what the net then stands for.
use Rattle.std.proofs.Common.{◌∙◌, ◌++◌, ap}
use Rattle.abt_step.specs.Stepped.{answer_to, events_past}
use Rattle.abt_step.proofs.stepped.SteppedLines.carry_out.Goals as goal

pub returns : goal.returns
returns c = λ form net opening events stands.
    let stood = c.in_ok-take.ensures.stands form net opening events stands in record {
      says = c.in_ok-take.ensures.says form net opening events stands ∙ ap (λ t. t ++ answer_to form net opening events c.args.asked.now) c.requires;
      stands = stood;
      headline = c.is_safe.ensures.headline net (events_past opening events c.args.asked.now) stood.works;
    }
