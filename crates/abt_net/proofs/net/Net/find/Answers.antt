use Rattle.abt_net.proofs.IndexLemmas.{finds}
use Rattle.abt_net.proofs.net.Net.find.Goals as goal

pub returns-clause-value : goal.returns-clause-value
returns-clause-value c =
    (finds _ c.args.self.now c.self.inside.places c.args.vc c.number_of.result c.self.invariant c.self.view_is c.number_of.ensures).value

pub returns-clause-within : goal.returns-clause-within
returns-clause-within c =
    (finds _ c.args.self.now c.self.inside.places c.args.vc c.number_of.result c.self.invariant c.self.view_is c.number_of.ensures).within

pub returns-clause-only : goal.returns-clause-only
returns-clause-only c =
    (finds _ c.args.self.now c.self.inside.places c.args.vc c.number_of.result c.self.invariant c.self.view_is c.number_of.ensures).only
