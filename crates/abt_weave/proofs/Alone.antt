-- What comes to a port alone: a capacity.
use Rattle.std.proofs.Common.{◌≡◌, ℕ, ◌<◌, inl, inr, refl, ap, ◌++◌, length, ◌∙◌, sym, None, Some, arith}
use Rattle.std.specs.Prelude.{nat_lt, Result, Ok, Err}
use Rattle.std.proofs.lemmas.Bool.{cond_both, ltb-true, ltb-false}
use Rattle.abt_ledger.specs.Capacity.{capacity_fault, capacity_answer}
use Rattle.abt_ledger.specs.declared.fault.CapacityFault.{CapacityFault}
use Rattle.abt_net.specs.Topology.{Topology}
use Rattle.abt_model.specs.declared.event.Event.TheVariants.{Capacity}
use Rattle.abt_model.specs.declared.target.Target.TheVariants.{Port}
use Rattle.abt_model.specs.declared.outcome.Cause.TheVariants.{Unknown}
use Rattle.abt_model.specs.declared.outcome.Outcome.{Outcome}
use Rattle.abt_model.specs.declared.outcome.Outcome.TheVariants.{NotEnabled}
use Rattle.abt_model.specs.Answers.{capped}
use Rattle.abt_model.specs.Outcomes.{outcome_of, port_facts_added, after_event}
use Rattle.abt_model.specs.Past.{Past}
use Rattle.abt_model.specs.Reserved.{reserved_on}
use Rattle.abt_journal.specs.declared.input.PortInput.TheVariants.{Capacity as CapacityIn}
use Rattle.abt_journal.specs.declared.input.PortReply.{PortReply}
use Rattle.abt_journal.specs.declared.input.PortReply.TheVariants.{Capped as CappedOut}
use Rattle.abt_weave.specs.Projections.{Visit, reply_of, visit_alone, visit_of, visit}
use Rattle.abt_weave.proofs.PortEvents.{some_same, IsVisitAlone, visit_cases}

pub reply_capped : (answer : Result (Unit {0}) CapacityFault) → reply_of (capped answer) ≡ Some (CappedOut answer)
reply_capped (Ok done) = refl
reply_capped (Err fault) = refl

-- what a port answers to a capacity
abbrev pub answer_told : Topology → Past → (p u : ℕ) → Result (Unit {0}) CapacityFault
answer_told net past p u = capacity_answer (capacity_fault (reserved_on net past p) u)

-- a capacity that is replied to is one of a port of the net
pub capped_by : (net : Topology) (past : Past) (p u : ℕ) (reply : PortReply) → reply_of (outcome_of net past (Capacity p u)) ≡ Some reply →
    (p < length net.capacities) × (outcome_of net past (Capacity p u) ≡ capped (answer_told net past p u)) × (reply ≡ CappedOut (answer_told net past p u))
capped_by net past p u reply =
    cond_both (nat_lt p (length net.capacities)) (capped (answer_told net past p u)) (NotEnabled Unknown)
    (λ (o : Outcome). reply_of o ≡ Some reply → (p < length net.capacities) × (o ≡ capped (answer_told net past p u)) × (reply ≡ CappedOut (answer_told net past p u)))
    (λ low h. (ltb-true p (length net.capacities) low, refl, some_same (sym h ∙ reply_capped (answer_told net past p u))))
    (λ high h. absurd (cc))

-- and each capacity of such a port is
pub capped_at : (net : Topology) (past : Past) (p u : ℕ) → p < length net.capacities → reply_of (outcome_of net past (Capacity p u)) ≡ Some (CappedOut (answer_told net past p u))
capped_at net past p u low =
    cond_both (nat_lt p (length net.capacities)) (capped (answer_told net past p u)) (NotEnabled Unknown)
    (λ (o : Outcome). reply_of o ≡ Some (CappedOut (answer_told net past p u)))
    (λ low. reply_capped (answer_told net past p u))
    (λ high. absurd (let past_it = ltb-false p (length net.capacities) high in omega (arith, past_it, low)))

pub capacity_visit : (net : Topology) (past : Past) (p u : ℕ) (reply : PortReply) → reply_of (outcome_of net past (Capacity p u)) ≡ Some reply →
    visit net past (Capacity p u) ≡ Some (record { port = p; input = CapacityIn u; reply = reply })
capacity_visit net past p u reply replies = ap (visit_alone (Port p u)) replies

-- the visit that a capacity is
pub capacity_visits : (net : Topology) (past : Past) (p u : ℕ) (v : Visit) → visit net past (Capacity p u) ≡ Some v → (p ≡ v.port) × (v.input ≡ CapacityIn u) × (reply_of (outcome_of net past (Capacity p u)) ≡ Some v.reply)
capacity_visits net past p u v is = elim (visit_cases net past (Capacity p u) v is) [
  | inl parts ↦ (let clash : None ≡ Some parts.c = parts.whose in absurd (cc))
  | inr alone ↦ (
      let same : Capacity p u ≡ Capacity v.port alone.capacity = alone.event_is in
      let ports : p ≡ v.port = cc in
      let capacities : u ≡ alone.capacity = cc in
      (ports, alone.input ∙ ap CapacityIn (sym capacities), alone.reply))
]

-- one that comes to no port has not happened
pub capacity_silent : (net : Topology) (past : Past) (p u : ℕ) → visit net past (Capacity p u) ≡ None → after_event net past (Capacity p u) ≡ past
capacity_silent net past p u =
    cond_both (nat_lt p (length net.capacities)) (capped (answer_told net past p u)) (NotEnabled Unknown)
    (λ (o : Outcome). visit_alone (Port p u) (reply_of o) ≡ None → port_facts_added (Capacity p u) o ++ past ≡ past)
    (λ low h. (let clash = sym (ap (visit_alone (Port p u)) (reply_capped (answer_told net past p u))) ∙ h in absurd (cc)))
    (λ high h. refl)
