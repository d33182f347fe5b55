use Rattle.abt_node.proofs.RuleLemmas.{only_answered}
use Rattle.abt_node.proofs.TableLemmas.{answer_decision}
use Rattle.abt_node.proofs.laws.answers_follow_the_rule.Goals as goal

pub returns-clause-value : goal.returns-clause-value
returns-clause-value c = answer_decision

pub returns-clause-only : goal.returns-clause-only
returns-clause-only c = only_answered
