-- The entries so far, with each crash that was missing, and those of the entries that are left, are all.
use Rattle.std.proofs.Common.{drop, vec_items}
use Rattle.abt_derive.proofs.Crashing.{IsPartly}
use Rattle.abt_derive.proofs.restarting.with_crashes.Given as goal

abbrev pub invariant-loop-place : goal.invariant-loop-place
invariant-loop-place l = IsPartly l.spots l.place l.up l.entries (drop l.place l.entries) l.full (vec_items l.places)
