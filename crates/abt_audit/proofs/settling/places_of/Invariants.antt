-- The places so far, and those of the writes that are left, are all.
use Rattle.std.proofs.Common.{◌≡◌, ◌++◌, drop, vec_items}
use Rattle.abt_audit.specs.Settling.{places_on}
use Rattle.abt_audit.proofs.settling.places_of.Given as goal

abbrev pub invariant-loop-write : goal.invariant-loop-write
invariant-loop-write l = vec_items l.places ++ places_on l.source (drop l.write-index l.open_writes) ≡ places_on l.source l.open_writes
