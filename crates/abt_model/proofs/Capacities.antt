-- What events do to the capacities in force.
use Rattle.std.proofs.Common.{◌≡◌, ◌≢◌, ℕ, ◌≤◌, ◌<◌, refl, ap, false, List, [], ◌∷◌, ◌++◌, length, ◌∙◌, sym, subst, arith}
use Rattle.std.specs.Prelude.{◌==◌, nat_lt, Option, None, Some, Result, Ok, Err}
use Rattle.std.proofs.lemmas.Bool.{ne_eqb, cond-false, cond_both, eqb-true, ltb-true, ltb-false}
use Rattle.abt_rate.specs.Limits.{capacity_max}
use Rattle.abt_ledger.specs.Capacity.{capacity_fault, capacity_answer}
use Rattle.abt_ledger.specs.declared.fault.CapacityFault.{CapacityFault}
use Rattle.abt_facts.specs.declared.fact.Fact.{Fact}
use Rattle.abt_net.specs.Topology.{Topology}
use Rattle.abt_model.specs.declared.event.Event.{Event}
use Rattle.abt_model.specs.declared.event.Event.TheVariants.{Capacity}
use Rattle.abt_model.specs.declared.outcome.Outcome.{Outcome}
use Rattle.abt_model.specs.declared.outcome.Outcome.TheVariants.{CapacitySet}
use Rattle.abt_model.specs.Targets.{target_of}
use Rattle.abt_model.specs.Past.{Past, facts_of, with_facts}
use Rattle.abt_model.specs.Reserved.{reserved_on, capacity_of}
use Rattle.abt_model.specs.Answers.{capped}
use Rattle.abt_model.specs.Outcomes.{conn_of, outcome_alone, outcome_by, outcome_of, facts_added, port_facts_added, past_by, after_event}
use Rattle.abt_model.specs.PortTable.{VisitsAlone}

-- what an event of a port alone adds is of no connection
pub port_facts_apart : (e : Event) (o : Outcome) (d : ℕ) (past : Past) → facts_of d (port_facts_added e o ++ past) ≡ facts_of d past
port_facts_apart (Capacity p u) CapacitySet d past = refl
port_facts_apart (Capacity p u) other d past = refl
port_facts_apart e o d past = refl

-- the facts of a connection leave each capacity
pub capacity_of-with_facts : (net : Topology) (c p : ℕ) (fs : List Fact) (past : Past) → capacity_of net (with_facts c fs past) p ≡ capacity_of net past p
capacity_of-with_facts net c p [] past = refl
capacity_of-with_facts net c p (f ∷ fs) past = capacity_of-with_facts net c p fs past

pub capacity_of-own : (net : Topology) (past : Past) (e : Event) (p c : ℕ) → conn_of e ≡ Some c → capacity_of net (after_event net past e) p ≡ capacity_of net past p
capacity_of-own net past e p c own =
    ap (λ (o : Option ℕ). capacity_of net (past_by past e (outcome_of net past e) o) p) own
    ∙ capacity_of-with_facts net c p (facts_added (facts_of c past) e (outcome_of net past e)) past

-- the past after an event of a port alone
pub after_event-alone : (net : Topology) (past : Past) (e : Event) → conn_of e ≡ None → after_event net past e ≡ port_facts_added e (outcome_alone net past e) ++ past
after_event-alone net past e alone =
    ap (past_by past e (outcome_of net past e)) alone
    ∙ ap (λ (o : Outcome). port_facts_added e o ++ past) (ap (outcome_by net past e) alone)

-- a capacity that is set is no less than the sum
set_fits : (total u : ℕ) → capacity_fault total u ≡ None → total ≤ u
set_fits total u =
    cond_both (nat_lt u total) _ _ (λ (o : Option CapacityFault). o ≡ None → total ≤ u)
    (λ e h. absurd (cc)) (λ e h. ltb-false u total e)

answered_within : (net : Topology) (past : Past) (q u p : ℕ) → reserved_on net past p ≤ capacity_of net past p → (fault : Option CapacityFault) →
    capacity_fault (reserved_on net past q) u ≡ fault → reserved_on net past p ≤ capacity_of net (port_facts_added (Capacity q u) (capped (capacity_answer fault)) ++ past) p
answered_within net past q u p within None is =
    cond_both (q == p) u (capacity_of net past p) (λ (n : ℕ). reserved_on net past p ≤ n)
    (λ e. subst (λ (r : ℕ). reserved_on net past r ≤ u) (eqb-true q p e) (set_fits (reserved_on net past q) u is)) (λ e. within)
answered_within net past q u p within (Some fault) is = within

-- the sum of each port stays within the capacity that is then in force
pub alone_within : (net : Topology) (past : Past) (e : Event) (p : ℕ) → reserved_on net past p ≤ capacity_of net past p →
    reserved_on net past p ≤ capacity_of net (port_facts_added e (outcome_alone net past e) ++ past) p
alone_within net past (Capacity q u) p within =
    cond_both (nat_lt q (length net.capacities)) _ _ (λ (o : Outcome). reserved_on net past p ≤ capacity_of net (port_facts_added (Capacity q u) o ++ past) p)
    (λ e. answered_within net past q u p within (capacity_fault (reserved_on net past q) u) refl) (λ e. within)
alone_within net past e p within = within

answered_stays : (net : Topology) (past : Past) (q u p : ℕ) → q ≢ p → (fault : Option CapacityFault) →
    capacity_of net (port_facts_added (Capacity q u) (capped (capacity_answer fault)) ++ past) p ≡ capacity_of net past p
answered_stays net past q u p differ None = cond-false _ _ _ (ne_eqb q p differ)
answered_stays net past q u p differ (Some fault) = refl

-- a port to which an event doesn't come keeps its capacity
pub alone_stays : (net : Topology) (past : Past) (e : Event) (p : ℕ) → ¬ VisitsAlone net (target_of e) p →
    capacity_of net (port_facts_added e (outcome_alone net past e) ++ past) p ≡ capacity_of net past p
alone_stays net past (Capacity q u) p away =
    cond_both (nat_lt q (length net.capacities)) _ _ (λ (o : Outcome). capacity_of net (port_facts_added (Capacity q u) o ++ past) p ≡ capacity_of net past p)
    (λ e. answered_stays net past q u p (λ same. away (same, ltb-true q (length net.capacities) e)) (capacity_fault (reserved_on net past q) u)) (λ e. refl)
alone_stays net past e p away = refl
