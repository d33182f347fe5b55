use Rattle.std.specs.Prelude.{◌+◌, ◌≤◌, vec_len, vec_items, vec_capacity}
use Rattle.std.specs.Vec.Iter.{into_iter_len}
use Rattle.abt_links.specs.Ends.{HavePortsEnded}
use Rattle.abt_links.proofs.ending.end_ports.Given as goal

abbrev pub invariant-loop-cell : goal.invariant-loop-cell
invariant-loop-cell g l = (vec_len l.states + into_iter_len l.cell-iterator ≤ vec_capacity l.states) × HavePortsEnded g.N.Place.net (vec_items l.states) l.front
