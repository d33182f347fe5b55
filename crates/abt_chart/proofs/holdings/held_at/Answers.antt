use Rattle.std.proofs.Common.{ap, ◌∙◌}
use Rattle.std.specs.Prelude.{unwrap_or}
use Rattle.abt_model.specs.Run.{facts_after}
use Rattle.abt_chart.proofs.Read.{port_read}
use Rattle.abt_chart.proofs.holdings.held_at.Goals as goal

pub returns-in-Some : goal.returns-in-Some
returns-in-Some c = λ net events stands known.
    c.units_of.ensures ∙ ap (λ o. unwrap_or o 0) (c.held.ensures net events stands)
    ∙ port_read net (facts_after net events) c.args.place c.args.conn.now c.args.port c.in-Some.hop known c.in-Some.ensures.some c.in-Some.ensures.within
    (λ zero. (let e = c.in-Some.ensures.none.1 zero in cc))
