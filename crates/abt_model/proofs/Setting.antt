-- A port takes a capacity as the facts say.
use Rattle.std.proofs.Common.{◌≡◌, ℕ, ◌+◌, refl, ap, List, [], ◌∷◌, ◌++◌, length, ◌∙◌, sym}
use Rattle.std.specs.Prelude.{◌==◌, if◌then◌else◌, nat_lt, Option, None, Some, Result, Ok, Err}
use Rattle.std.specs.FinMap.{from_entries}
use Rattle.std.proofs.lemmas.Bool.{eq-eqb, cond-true, cond_both}
use Rattle.abt_ledger.specs.Capacity.{capacity_fault, capacity_answer, capacity_after}
use Rattle.abt_ledger.specs.declared.fault.CapacityFault.{CapacityFault}
use Rattle.abt_cell.specs.Channel.{Channel}
use Rattle.abt_node.specs.Table.{Connection, Table, capacity_set, table_after_capacity}
use Rattle.abt_net.specs.declared.conn.Conn.{Conn}
use Rattle.abt_net.specs.Topology.{Topology, IsWithinRules}
use Rattle.abt_net.specs.Paths.{hop_of}
use Rattle.abt_model.specs.declared.event.Event.TheVariants.{Capacity}
use Rattle.abt_model.specs.declared.net_fact.NetFact.TheVariants.{Capped}
use Rattle.abt_model.specs.declared.outcome.Cause.TheVariants.{Unknown}
use Rattle.abt_model.specs.declared.outcome.Outcome.{Outcome}
use Rattle.abt_model.specs.declared.outcome.Outcome.TheVariants.{NotEnabled}
use Rattle.abt_model.specs.Past.{Past, facts_of}
use Rattle.abt_model.specs.Reserved.{reserved_on, capacity_of}
use Rattle.abt_model.specs.Answers.{capped}
use Rattle.abt_model.specs.Outcomes.{port_facts_added}
use Rattle.abt_model.specs.PortTable.{kept_at, kept_from, port_table, CapacitiesServed}
use Rattle.abt_model.proofs.Worlds.{AllLawful}
use Rattle.abt_model.proofs.Tables.{totals_reserved}

-- what a port keeps of its connections stays
kept_alone : (c : ℕ) (conns : List Conn) (past : Past) (q u p : ℕ) → kept_from c conns (Capped q u ∷ past) p ≡ kept_from c conns past p
kept_alone c [] past q u p = refl
kept_alone c (conn ∷ conns) past q u p =
    ap (λ (rest : List (Channel × Connection)). if hop_of conn.path p == 0 then rest else (conn.vc, kept_at conn (facts_of c past) (hop_of conn.path p)) ∷ rest)
    (kept_alone (c + 1) conns past q u p)

-- the table then
table_capped : (net : Topology) (past : Past) (p u : ℕ) (fault : Option CapacityFault) →
    port_table net (port_facts_added (Capacity p u) (capped (capacity_answer fault)) ++ past) p
    ≡ record { id = p; capacity = capacity_after (capacity_of net past p) u fault; connections = from_entries (kept_from 0 net.conns past p) }
table_capped net past p u None =
    ap (λ (n : ℕ). record { id = p; capacity = n; connections = from_entries (kept_from 0 net.conns (Capped p u ∷ past) p) }) (cond-true _ _ _ (eq-eqb p p refl))
    ∙ ap (λ (es : List (Channel × Connection)). record { id = p; capacity = u; connections = from_entries es }) (kept_alone 0 net.conns past p u p)
table_capped net past p u (Some fault) = refl

-- an outcome tells the answer
capped_is : (fault : Option CapacityFault) (answer : Result (Unit {0}) CapacityFault) → capped (capacity_answer fault) ≡ capped answer → capacity_answer fault ≡ answer
capped_is None (Ok done) e = refl
capped_is None (Err other) e = absurd (cc)
capped_is (Some fault) (Ok done) e = absurd (cc)
capped_is (Some fault) (Err other) e = cc

never_capped : (answer : Result (Unit {0}) CapacityFault) → NotEnabled Unknown ≡ capped answer → ⊥
never_capped (Ok done) e = absurd (cc)
never_capped (Err fault) e = absurd (cc)

-- what a port that has the table of a past answers
abbrev pub answer_set : Topology → Past → (p capacity : ℕ) → Result (Unit {0}) CapacityFault
answer_set net past p u = capacity_answer (capacity_fault (reserved_on net past p) u)

pub capacities_served : (net : Topology) (past : Past) → IsWithinRules net → AllLawful net past → CapacitiesServed net past
capacities_served net past rules lawful p u answer said =
    let total = totals_reserved net past rules lawful p in
    let fault = capacity_fault (reserved_on net past p) u in
    cond_both (nat_lt p (length net.capacities)) (capped (capacity_answer (capacity_fault (reserved_on net past p) u))) (NotEnabled Unknown)
    (λ (o : Outcome). o ≡ capped answer → (capacity_set (port_table net past p) u ≡ answer) × (table_after_capacity (port_table net past p) u ≡ port_table net (port_facts_added (Capacity p u) o ++ past) p))
    (λ low is. (
      ap (λ (sum : ℕ). capacity_answer (capacity_fault sum u)) total ∙ capped_is (capacity_fault (reserved_on net past p) u) answer is,
      ap (λ (sum : ℕ). record { id = p; capacity = capacity_after (capacity_of net past p) u (capacity_fault sum u); connections = from_entries (kept_from 0 net.conns past p) }) total
          ∙ sym (table_capped net past p u (capacity_fault (reserved_on net past p) u)),
    ))
    (λ e is. absurd (never_capped answer is))
    said
