-- The numbers of sources and ports.
use Rattle.std.proofs.Common.{◌≡◌, ℕ, Vec, ◌+◌, ◌-◌, ◌<◌, ◌≤◌, inl, inr, ap, Bool, true, false, List, length, ◌∙◌, subst, Some, arith}
use Rattle.std.specs.Prelude.{nat_lt, slice_get}
use Rattle.std.specs.Global.{Global}
use Rattle.std.proofs.lemmas.List.{length-map}
use Rattle.std.proofs.lemmas.Bool.{cond-true, cond-false, cases_Bool}
use Rattle.std.proofs.lemmas.Bool.Decides.{nat_tests}
use Rattle.abt_net.specs.Topology.{Topology}
use Rattle.abt_model.specs.declared.event.Event.{Event}
use Rattle.abt_journal.specs.declared.entry.Entry.{Entry}
use Rattle.abt_model.specs.declared.journal.SourceJournal.{SourceJournal}
use Rattle.abt_weave.specs.declared.actor.Actor.TheVariants.{Source, Port}
use Rattle.abt_weave.specs.Stuck.{RunJournals}
use Rattle.abt_weave.specs.Actors.{actor_count, actor_at}
use Rattle.abt_weave.specs.OneFault.{AreJournalsOf}
use Rattle.abt_weave.specs.Progress.{journaled, IsSourceSettled, IsPortSettled, IsActorSettled, AreSettled}

pub are_journals : (net : Topology) (ports : List (Vec Entry Global)) (sources : List SourceJournal) → length sources ≡ length net.conns → length ports ≡ length net.capacities → AreJournalsOf net (journaled ports sources)
are_journals net ports sources one other = record { ports = length-map ports (λ (entries : Vec Entry Global). entries.items) ∙ other; conns = one }

pub below_if : (m n : ℕ) → nat_lt m n ≡ true → m < n
below_if m n h = grind (arith, nat_tests)

pub below_else : (m n : ℕ) → nat_lt m n ≡ false → n ≤ m
below_else m n h = grind (arith, nat_tests)

pub source_at : (net : Topology) (c : ℕ) → c < length net.conns → actor_at net c ≡ Source c
source_at net c low = elim (cases_Bool (nat_lt c (length net.conns))) [
  | inl less ↦ cond-true _ _ _ less
  | inr not_less ↦ (let high = below_else c (length net.conns) not_less in absurd (omega (arith, low, high)))
]

pub port_at : (net : Topology) (p : ℕ) → actor_at net (length net.conns + p) ≡ Port p
port_at net p = elim (cases_Bool (nat_lt (length net.conns + p) (length net.conns))) [
  | inl less ↦ (let low = below_if (length net.conns + p) (length net.conns) less in absurd (omega (arith, low)))
  | inr not_less ↦ (let same : (length net.conns + p) - length net.conns ≡ p = omega arith in cond-false _ _ _ not_less ∙ ap (λ q. Port q) same)
]

pub source_settled : (net : Topology) (js : RunJournals) (earlier : List Event) (marks : List Bool) (c : ℕ) (b : Bool) → AreSettled net js earlier (actor_count net) marks → c < length net.conns → slice_get marks c ≡ Some b → IsSourceSettled net js earlier c b
source_settled net js earlier marks c b are low is = subst (λ a. IsActorSettled net js earlier a b) (source_at net c low) (are.each c b is)

pub port_settled : (net : Topology) (js : RunJournals) (earlier : List Event) (marks : List Bool) (p : ℕ) (b : Bool) → AreSettled net js earlier (actor_count net) marks → slice_get marks (length net.conns + p) ≡ Some b → IsPortSettled net js earlier p b
port_settled net js earlier marks p b are is = subst (λ a. IsActorSettled net js earlier a b) (port_at net p) (are.each (length net.conns + p) b is)
