-- The entries so far fit, and no more than the others do.
use Rattle.std.proofs.Common.{◌≡◌, List, drop}
use Rattle.abt_actor.specs.Actor.{actor_of}
use Rattle.abt_facts.specs.declared.fact.Fact.{Fact}
use Rattle.abt_audit.proofs.Settled.{FitsOn}
use Rattle.abt_audit.proofs.settling.reach.Given as goal

abbrev pub invariant-loop-place : goal.invariant-loop-place
invariant-loop-place l = (facts : List Fact) × (l.actor ≡ actor_of l.fn.vc facts) × FitsOn l.fn.vc l.entries l.place facts (drop l.place l.entries)
