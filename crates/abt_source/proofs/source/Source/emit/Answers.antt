use Rattle.abt_source.proofs.Emissions.{emission_exact}
use Rattle.abt_source.proofs.source.Source.emit.Goals as goal

pub returns-clause-value : goal.returns-clause-value
returns-clause-value g c =
    rw (← c.self.view_is)
    (emission_exact c.self.inside.shaper c.emit-answer.new.self c.args.now c.self.inside.rate c.emit-answer.result
    c.emit-answer.ensures.clock_back c.emit-answer.ensures.time_range c.emit-answer.ensures.zero c.emit-answer.ensures.too_soon
    c.emit-answer.ensures.ok c.emit-answer.ensures.value)

pub returns-2-clause-value : goal.returns-2-clause-value
returns-2-clause-value g c =
    rw (← c.self.view_is)
    (emission_exact c.self.inside.shaper c.emit-answer.new.self c.args.now c.self.inside.rate c.emit-answer.result
    c.emit-answer.ensures.clock_back c.emit-answer.ensures.time_range c.emit-answer.ensures.zero c.emit-answer.ensures.too_soon
    c.emit-answer.ensures.ok c.emit-answer.ensures.value)
