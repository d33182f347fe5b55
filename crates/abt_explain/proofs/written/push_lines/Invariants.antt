-- With the lines of the events that are left there will be all lines.
use Rattle.std.proofs.Common.{◌≡◌, ◌+◌, ◌++◌, drop, string_bytes}
use Rattle.abt_explain.specs.Written.{lines_from}
use Rattle.abt_explain.proofs.written.push_lines.Given as goal

abbrev pub invariant-loop-index : goal.invariant-loop-index
invariant-loop-index l =
    string_bytes l.out ++ lines_from l.source (l.index + 1) (drop l.index l.places) (drop l.index l.events)
    ≡ string_bytes l.initial.out ++ lines_from l.source 1 l.places l.events
