-- The source has done what the entries so far had it do.
use Rattle.std.proofs.Common.{◌≡◌, List, drop}
use Rattle.std.specs.Prelude.{fold}
use Rattle.abt_actor.specs.Actor.{actor_of}
use Rattle.abt_facts.specs.declared.fact.Fact.{Fact}
use Rattle.abt_audit.specs.Protocol.{facts_past, facts_through}
use Rattle.abt_audit.proofs.obeying.actor_after.Given as goal

abbrev pub invariant-loop-entry : goal.invariant-loop-entry
invariant-loop-entry l =
    (facts : List Fact) × (l.actor ≡ actor_of l.fn.vc facts) × (fold (facts_past l.fn.vc) facts (drop l.entry-index l.entries) ≡ facts_through l.fn.vc l.entries)
