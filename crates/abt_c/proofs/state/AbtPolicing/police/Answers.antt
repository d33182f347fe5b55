use Rattle.std.proofs.Common.{◌∙◌}
use Rattle.abt_rate.specs.Rate.{units_of}
use Rattle.abt_c.specs.States.{policing_of}
use Rattle.abt_c.proofs.BurstLemmas.{policed_by-rate}
use Rattle.abt_c.proofs.state.AbtPolicing.police.Goals as goal

pub returns-clause-value : goal.returns-clause-value
returns-clause-value c =
    c.police_by.ensures.value ∙ policed_by-rate (policing_of c.args.self.now) c.args.at (units_of c.args.held) c.spacing_of_code.result c.spacing_of_code.ensures.none c.spacing_of_code.ensures.value
