-- What an event answers follows from the facts of its connection, and from the table of the port that it comes to.
use Rattle.std.proofs.Common.{◌≡◌, ℕ, ◌-◌, inl, inr, refl, ap, List, [], length, ◌∙◌, sym, Some}
use Rattle.std.specs.Prelude.{nat_lt, if◌then◌else◌, slice_index, All}
use Rattle.abt_net.specs.declared.conn.Conn.{Conn}
use Rattle.abt_net.specs.Topology.{Topology, IsWithinRules, conn_at}
use Rattle.abt_ledger.specs.Capacity.{capacity_fault, capacity_answer}
use Rattle.abt_node.specs.Table.{Table, sum_of}
use Rattle.abt_facts.specs.declared.fact.Fact.{Fact}
use Rattle.abt_model.specs.declared.event.Event.{Event}
use Rattle.abt_model.specs.declared.event.Event.TheVariants.{Request, Capacity}
use Rattle.abt_model.specs.declared.outcome.Cause.TheVariants.{Unknown}
use Rattle.abt_model.specs.declared.outcome.Outcome.TheVariants.{NotEnabled}
use Rattle.abt_model.specs.Answers.{answer_by, capped}
use Rattle.abt_model.specs.Events.{AsksRate}
use Rattle.abt_model.specs.Outcomes.{conn_of, port_of, outcome_of}
use Rattle.abt_model.specs.Past.{facts_of}
use Rattle.abt_model.specs.PortTable.{port_table, hop_visited}
use Rattle.abt_model.specs.Reserved.{reserved_on, capacity_of}
use Rattle.abt_model.proofs.Tables.{totals_reserved}
use Rattle.abt_model.proofs.Worlds.{cases_option, outcome_of-known, outcome_of-unknown}
use Rattle.abt_source.specs.SourceFacts.{request_of}
use Rattle.abt_journal.specs.declared.input.PortInput.{PortInput}
use Rattle.abt_journal.specs.declared.input.PortInput.TheVariants.{Request as RequestIn}
use Rattle.abt_weave.specs.Projections.{input_of, past_of, steps_on}
use Rattle.abt_weave.proofs.Replays.{replayed, past_lawful, tables_replayed}

-- two lists of events over a net, each of whose rates a code can name
pub record AreRuns (net : Topology) (one other : List Event) : Type 0 where
  pub rules : IsWithinRules net
  pub first : All AsksRate one
  pub second : All AsksRate other

-- a port that has had the same steps has the same table
pub tables_alike : (net : Topology) (one other : List Event) → AreRuns net one other → (p : ℕ) → steps_on net p one ≡ steps_on net p other → port_table net (past_of net one) p ≡ port_table net (past_of net other) p
tables_alike net one other runs p same =
    tables_replayed net runs.rules one runs.first p ∙ ap (replayed (port_table net [] p)) same ∙ sym (tables_replayed net runs.rules other runs.second p)

-- so the same is reserved on it, and it has the same capacity
reserved_alike : (net : Topology) (one other : List Event) → AreRuns net one other → (p : ℕ) → steps_on net p one ≡ steps_on net p other → reserved_on net (past_of net one) p ≡ reserved_on net (past_of net other) p
reserved_alike net one other runs p same =
    sym (totals_reserved net (past_of net one) runs.rules (past_lawful net one runs.first) p)
    ∙ ap sum_of (tables_alike net one other runs p same)
    ∙ totals_reserved net (past_of net other) runs.rules (past_lawful net other runs.second) p

capacity_alike : (net : Topology) (one other : List Event) → AreRuns net one other → (p : ℕ) → steps_on net p one ≡ steps_on net p other → capacity_of net (past_of net one) p ≡ capacity_of net (past_of net other) p
capacity_alike net one other runs p same = ap (λ (t : Table). t.capacity) (tables_alike net one other runs p same)

-- the port that an event of a connection comes to has had the same steps
abbrev pub SameSteps : Topology → List Event → List Event → Conn → Event → List Fact → Type 0
SameSteps net one other conn event facts =
    (input : PortInput) → input_of conn.vc facts event ≡ Some input →
    steps_on net (slice_index conn.path (hop_visited event - 1)) one ≡ steps_on net (slice_index conn.path (hop_visited event - 1)) other

answers_alike : (net : Topology) (one other : List Event) → AreRuns net one other → (conn : Conn) (event : Event) (facts others : List Fact) → facts ≡ others → SameSteps net one other conn event facts →
    answer_by conn (reserved_on net (past_of net one) (port_of conn.path event)) (capacity_of net (past_of net one) (port_of conn.path event)) facts event
    ≡ answer_by conn (reserved_on net (past_of net other) (port_of conn.path event)) (capacity_of net (past_of net other) (port_of conn.path event)) others event
answers_alike net one other runs conn (Request c hop seq) facts others same steps =
    let event = Request c hop seq in
    let p = port_of conn.path event in
    let level = steps (RequestIn (request_of conn.vc facts seq)) refl in
    ap (λ n. answer_by conn n (capacity_of net (past_of net one) p) facts event) (reserved_alike net one other runs p level)
    ∙ ap (λ n. answer_by conn (reserved_on net (past_of net other) p) n facts event) (capacity_alike net one other runs p level)
    ∙ ap (λ l. answer_by conn (reserved_on net (past_of net other) p) (capacity_of net (past_of net other) p) l event) same
answers_alike net one other runs conn event facts others same steps =
    ap (λ l. answer_by conn (reserved_on net (past_of net one) (port_of conn.path event)) (capacity_of net (past_of net one) (port_of conn.path event)) l event) same

-- the outcome of an event of a connection
pub outcome_alike : (net : Topology) (one other : List Event) → AreRuns net one other → (event : Event) (c : ℕ) → conn_of event ≡ Some c → facts_of c (past_of net one) ≡ facts_of c (past_of net other) →
    ((conn : Conn) → conn_at net c ≡ Some conn → SameSteps net one other conn event (facts_of c (past_of net one))) → outcome_of net (past_of net one) event ≡ outcome_of net (past_of net other) event
outcome_alike net one other runs event c whose same steps = elim (cases_option (conn_at net c)) [
  | inl unknown ↦ outcome_of-unknown net (past_of net one) event c whose unknown ∙ sym (outcome_of-unknown net (past_of net other) event c whose unknown)
  | inr known ↦ (
      outcome_of-known net (past_of net one) event c known.0 whose known.1
      ∙ answers_alike net one other runs known.0 event (facts_of c (past_of net one)) (facts_of c (past_of net other)) same (steps known.0 known.1)
      ∙ sym (outcome_of-known net (past_of net other) event c known.0 whose known.1))
]

-- that of a port's new capacity
pub capacity_outcome : (net : Topology) (one other : List Event) → AreRuns net one other → (p u : ℕ) → steps_on net p one ≡ steps_on net p other → outcome_of net (past_of net one) (Capacity p u) ≡ outcome_of net (past_of net other) (Capacity p u)
capacity_outcome net one other runs p u same =
    ap (λ n. if nat_lt p (length net.capacities) then capped (capacity_answer (capacity_fault n u)) else NotEnabled Unknown) (reserved_alike net one other runs p same)
