use Rattle.std.proofs.Common.{map, ap, ◌∙◌}
use Rattle.abt_links.proofs.worker_results.worked_of.Goals as goal

pub returns-clause-accesses : goal.returns-clause-accesses
returns-clause-accesses g c = c.in_ok-accesses.ensures.0 ∙ ap (map (λ p. p.0)) c.in_ok-given_back.ensures

pub returns-clause-sites : goal.returns-clause-sites
returns-clause-sites g c = c.in_ok-accesses.ensures.1 ∙ ap (map (λ p. p.1)) c.in_ok-given_back.ensures
