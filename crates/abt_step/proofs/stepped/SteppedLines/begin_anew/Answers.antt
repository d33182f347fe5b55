-- The lines stand at the opening.
use Rattle.std.proofs.Common.{List, ap, length, subst}
use Rattle.abt_model.specs.declared.event.Event.{Event}
use Rattle.abt_net.specs.Topology.{Topology}
use Rattle.abt_step.specs.Steps.{WorksAt}
use Rattle.abt_step.proofs.stepped.SteppedLines.begin_anew.Goals as goal

pub returns : goal.returns
returns c = λ form net opening events stands.
    let work = c.in_ok-self.field-0 in record {
      form_is = stands.form_is;
      net_is = stands.net_is;
      opening_is = stands.opening_is;
      works = subst (λ (n : Topology). WorksAt n opening work) stands.net_is
          (subst (λ (es : List Event). WorksAt c.args.self.now.net.now es work) stands.opening_is c.in_ok-self.ensures);
      count = ap (λ (es : List Event). length es) stands.opening_is;
    }
