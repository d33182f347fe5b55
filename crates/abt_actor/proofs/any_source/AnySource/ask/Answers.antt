use Rattle.std.proofs.Common.{◌∷◌, ◌++◌, sym, subst}
use Rattle.abt_facts.specs.declared.fact.Fact.TheVariants.{Asked}
use Rattle.abt_facts.specs.Source.{Asking}
use Rattle.abt_source.specs.SourceFacts.{StandsFor, stored_by}
use Rattle.abt_actor.specs.Sources.{source_in, state_in}
use Rattle.abt_actor.proofs.any_source.AnySource.ask.Goals as goal

-- src/running.rt:45:5
pub returns-in-Ok-clause-facts : goal.returns-in-Ok-clause-facts
returns-in-Ok-clause-facts c facts mark stands =
    let request = c.in-Ok.asked.1 in
    subst (λ r. StandsFor (Asked request.seq request.floor request.ask mark ∷ (stored_by (source_in r) c.args.rate ++ facts)) (Asking request.seq) c.in-Ok.asked.0)
    (sym c.in-Idle.is) (c.in-Ok.ensures.facts facts mark (subst (λ r. StandsFor facts (state_in r) (source_in r)) c.in-Idle.is stands))

-- src/running.rt:45:5
pub returns-in-Ok-ask-clause-facts : goal.returns-in-Ok-ask-clause-facts
returns-in-Ok-ask-clause-facts c facts mark stands =
    let request = c.in-Ok-ask.asked.1 in
    subst (λ r. StandsFor (Asked request.seq request.floor request.ask mark ∷ (stored_by (source_in r) c.args.rate ++ facts)) (Asking request.seq) c.in-Ok-ask.asked.0)
    (sym c.in-Asking.is) (c.in-Ok-ask.ensures.facts facts mark (subst (λ r. StandsFor facts (state_in r) (source_in r)) c.in-Asking.is stands))
