-- The text so far, and the objects of the cells that are left, are the whole text.
use Rattle.std.proofs.Common.{◌≡◌, ◌+◌, ◌++◌, string_bytes, drop, map}
use Rattle.std.specs.Prelude.{Some}
use Rattle.abt_perform.specs.Plans.{texts_of}
use Rattle.abt_parts.specs.PartObjects.{served_objects}
use Rattle.abt_parts.specs.PortObjects.{port_objects}
use Rattle.abt_parts.proofs.port_answers.port_objects.Given as goal

abbrev pub invariant-loop-index : goal.invariant-loop-index
invariant-loop-index l =
    string_bytes l.text ++ served_objects l.port (l.index + 1) (map Some (texts_of (drop l.index l.cells)))
    ≡ port_objects l.capacity (texts_of l.cells)
