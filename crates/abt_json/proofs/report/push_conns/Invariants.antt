-- The text so far, and the objects of the connections that are left, are the whole text.
use Rattle.std.proofs.Common.{◌≡◌, ◌++◌, drop}
use Rattle.abt_json.specs.Objects.{conn_objects}
use Rattle.abt_json.proofs.report.push_conns.Given as goal

abbrev pub invariant-loop-index : goal.invariant-loop-index
invariant-loop-index l =
    l.text.items ++ conn_objects l.index (drop l.index l.rates) (drop l.index l.held) ≡ l.initial.text.items ++ conn_objects 0 l.rates l.held
