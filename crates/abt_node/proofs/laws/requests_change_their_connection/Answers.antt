use Rattle.abt_node.proofs.TableLemmas.{drop_changes_nothing, repeats_repeat, request_leaves_others}
use Rattle.abt_node.proofs.laws.requests_change_their_connection.Goals as goal

pub returns-clause-drop : goal.returns-clause-drop
returns-clause-drop c = drop_changes_nothing

pub returns-clause-again : goal.returns-clause-again
returns-clause-again c = repeats_repeat

pub returns-clause-same : goal.returns-clause-same
returns-clause-same c = request_leaves_others
