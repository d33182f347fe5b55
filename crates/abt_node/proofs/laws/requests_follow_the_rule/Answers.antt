use Rattle.abt_node.proofs.RuleLemmas.{only_decision}
use Rattle.abt_node.proofs.TableLemmas.{request_decision, decrease_passes}
use Rattle.abt_node.proofs.laws.requests_follow_the_rule.Goals as goal

pub returns-clause-value : goal.returns-clause-value
returns-clause-value c = request_decision

pub returns-clause-only : goal.returns-clause-only
returns-clause-only c = only_decision

pub returns-clause-decrease : goal.returns-clause-decrease
returns-clause-decrease c = decrease_passes
