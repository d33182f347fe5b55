-- The text so far, and the lines of the connections that are left, are the whole text.
use Rattle.std.proofs.Common.{◌≡◌, ◌++◌, drop, string_bytes}
use Rattle.abt_reason.specs.Ending.{conn_lines}
use Rattle.abt_reason.proofs.ending.push_conns.Given as goal

abbrev pub invariant-loop-index : goal.invariant-loop-index
invariant-loop-index l =
    string_bytes l.text ++ conn_lines l.index (drop l.index l.conns) (drop l.index l.rates) (drop l.index l.held)
    ≡ string_bytes l.initial.text ++ conn_lines 0 l.conns l.rates l.held
