-- The text so far, and the lines of the cells that are left, are the whole text.
use Rattle.std.proofs.Common.{◌≡◌, ◌+◌, ◌++◌, string_bytes, drop}
use Rattle.abt_perform.specs.Plans.{texts_of}
use Rattle.abt_perform.specs.PortText.{port_text, lines_from}
use Rattle.abt_perform.proofs.port.port_text.Given as goal

abbrev pub invariant-loop-index : goal.invariant-loop-index
invariant-loop-index l =
    string_bytes l.text ++ lines_from l.port (l.index + 1) (texts_of (drop l.index l.cells)) ≡ port_text l.capacity (texts_of l.cells)
