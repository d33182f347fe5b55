-- The ports so far are those of the first numbers.
use Rattle.std.proofs.Common.{◌≡◌, map, take}
use Rattle.abt_live.specs.Ports.{opening_of}
use Rattle.abt_live.proofs.switch.opened.Given as goal

abbrev pub invariant-loop-id : goal.invariant-loop-id
invariant-loop-id l = l.ports.items ≡ map (opening_of l.net) (take l.id-index l.ids)
