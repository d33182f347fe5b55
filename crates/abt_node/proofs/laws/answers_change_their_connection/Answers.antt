use Rattle.abt_node.proofs.TableLemmas.{answer_drop_changes_nothing, answers_settle, answer_leaves_others}
use Rattle.abt_node.proofs.laws.answers_change_their_connection.Goals as goal

pub returns-clause-drop : goal.returns-clause-drop
returns-clause-drop c = answer_drop_changes_nothing

pub returns-clause-value : goal.returns-clause-value
returns-clause-value c = answers_settle

pub returns-clause-same : goal.returns-clause-same
returns-clause-same c = answer_leaves_others
