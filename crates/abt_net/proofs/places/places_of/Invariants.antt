use Rattle.abt_net.specs.Places.{IsIndexOf}
use Rattle.abt_net.proofs.places.places_of.Given as goal

-- the index has the connections so far
abbrev pub invariant-loop-place : goal.invariant-loop-place
invariant-loop-place l = IsIndexOf l.places l.conns l.place
