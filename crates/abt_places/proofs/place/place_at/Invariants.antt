-- The place behind the octets so far.
use Rattle.std.proofs.Common.{◌≡◌, take}
use Rattle.abt_places.specs.Places.{place_behind}
use Rattle.abt_places.proofs.place.place_at.Given as goal

abbrev pub invariant-loop-octet : goal.invariant-loop-octet
invariant-loop-octet l = record { line = l.line; column = l.column } ≡ place_behind (take l.octet-index l.octet-items)
