-- The text so far, and the objects of the ports that are left, are the whole text.
use Rattle.std.proofs.Common.{◌≡◌, ◌++◌, drop}
use Rattle.abt_json.specs.Objects.{port_objects}
use Rattle.abt_json.proofs.report.push_ports.Given as goal

abbrev pub invariant-loop-index : goal.invariant-loop-index
invariant-loop-index l =
    l.text.items ++ port_objects l.index (drop l.index l.totals) (drop l.index l.capacities) ≡ l.initial.text.items ++ port_objects 0 l.totals l.capacities
