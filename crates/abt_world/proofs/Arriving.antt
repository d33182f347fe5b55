-- A cell that can arrive is judged by the first hop's port.
use Rattle.std.proofs.Common.{◌≡◌, ◌≢◌, ℕ, ◌<◌, Bool, true, false, List, [], ◌∷◌, refl, sym, ap, ◌∙◌, arith, length}
use Rattle.std.specs.Prelude.{◌&&◌, nat_le, nat_lt, Some, None, Ok, option_map, slice_get, slice_set, slice_index, if◌then◌else◌, not}
use Rattle.std.proofs.lemmas.Bool.Decides.{nat_tests}
use Rattle.abt_gcra.specs.declared.verdict.Verdict.{Verdict}
use Rattle.abt_net.specs.declared.conn.Conn.{Conn}
use Rattle.abt_net.specs.Topology.{Topology}
use Rattle.abt_node.specs.Table.{Table, held_at, connection_at, arrival_at, table_after_arrival}
use Rattle.abt_facts.specs.declared.fact.Fact.{Fact}
use Rattle.abt_facts.specs.declared.fact.Fact.TheVariants.{Arrived as FactArrived}
use Rattle.abt_facts.specs.Hop.{held_of, newest_of}
use Rattle.abt_facts.specs.Cells.{emitted_of, fence_of, is_in_time, last_arrival_of, verdict_at}
use Rattle.abt_model.specs.declared.event.Event.TheVariants.{Arrive}
use Rattle.abt_model.specs.declared.outcome.Cause.TheVariants.{NotSent, Fenced, Delay, ClockBack}
use Rattle.abt_model.specs.declared.outcome.Outcome.{Outcome}
use Rattle.abt_model.specs.declared.outcome.Outcome.TheVariants.{Arrived, NotEnabled}
use Rattle.abt_model.specs.Past.{Past, facts_of}
use Rattle.abt_model.specs.Outcomes.{outcome_of, after_event}
use Rattle.abt_model.specs.PortTable.{port_table, kept_at}
use Rattle.abt_model.proofs.Lawful.{route_of}
use Rattle.abt_model.proofs.Steps.{is_hop_tells}
use Rattle.abt_model.proofs.Worlds.{lawful_at}
use Rattle.abt_model.proofs.Decisions.{held_by-held}
use Rattle.abt_model.proofs.Served.{conn_within}
use Rattle.abt_model.proofs.Tables.{tables_have_rows, tables_stay}
use Rattle.abt_model.proofs.Serving.{arrivals_served}
use Rattle.abt_world.specs.Steps.{IsConnAt, ArePorts, Happens, port_at, arrival_cause, unless}
use Rattle.abt_world.proofs.Sendings.{answers, all_lawful}
use Rattle.abt_world.proofs.Serving.{port_has, ports_after, port_tells, away, at_its_hop}

by_causes : (unsent fenced late back : Bool) (o : Outcome) →
    (if unsent then NotEnabled NotSent else (if fenced then NotEnabled Fenced else (if late then NotEnabled Delay else (if back then NotEnabled ClockBack else o))))
    ≡ unless (if unsent then Some NotSent else (if fenced then Some Fenced else (if late then Some Delay else (if back then Some ClockBack else None)))) o
by_causes true fenced late back o = refl
by_causes false true late back o = refl
by_causes false false true back o = refl
by_causes false false false true o = refl
by_causes false false false false o = refl

-- a cell that nothing keeps away arrives
arrives :
    (net : Topology) (past : Past) (c : ℕ) (conn : Conn) (facts : List Fact) (cell at : ℕ) → IsConnAt net past c conn facts →
    arrival_cause conn facts cell at ≡ None → outcome_of net past (Arrive c cell at) ≡ Arrived (verdict_at conn.tau facts at (held_of facts 1))
arrives net past c conn facts cell at is none =
    let judged = Arrived (verdict_at conn.tau facts at (held_of facts 1)) in
    answers net past (Arrive c cell at) c conn facts refl is
    ∙ by_causes (not (nat_lt cell (emitted_of facts))) (nat_lt cell (fence_of facts)) (not (is_in_time conn.delay conn.tau facts cell at)) (nat_lt at (last_arrival_of facts)) judged
    ∙ ap (λ cause. unless cause judged) none

-- the first hop is there
some_hop : (hops : ℕ) → 0 < hops → (nat_le 1 1 && nat_le 1 hops) ≡ true
some_hop hops some = grind (arith, nat_tests)

pub first_hop :
    (net : Topology) (past : Past) (c : ℕ) (conn : Conn) (facts : List Fact) → IsConnAt net past c conn facts →
    port_at conn.path 1 ≡ Some (slice_index conn.path 0)
first_hop net past c conn facts is =
    ap (λ b. if b then Some (slice_index conn.path 0) else None) (some_hop (length conn.path) (conn_within net is.rules c conn is.known).has_hop)

-- what the port holds is what the facts say
pub rate_there :
    (net : Topology) (past : Past) (c : ℕ) (conn : Conn) (facts : List Fact) (hop port : ℕ) (ports : List Table) (table : Table) → IsConnAt net past c conn facts →
    ArePorts net past ports → port_at conn.path hop ≡ Some port → port < length ports → slice_get ports port ≡ Some table →
    option_map held_at (connection_at table conn.vc) ≡ Some (held_of facts hop)
rate_there net past c conn facts hop port ports table is are has low table_at =
    let tells = port_tells conn.path hop port has in
    let at_hop = at_its_hop net past c conn facts hop port is tells.0 tells.1 in
    let low_hop = (is_hop_tells (length conn.path) hop tells.0).0 in
    let some : Rattle.abt_net.specs.Paths.hop_of conn.path port ≢ 0 = λ none. omega arith in
    let table_is : table ≡ port_table net past port = (let e = sym table_at ∙ port_has net past ports port are low in cc) in
    let row = tables_have_rows net past is.rules c port conn is.known some in
    let lawful = lawful_at net past (all_lawful net past c conn facts is) c conn is.known in
    ap (λ t. option_map held_at (connection_at t conn.vc)) table_is
    ∙ ap (option_map held_at) row
    ∙ ap (λ h. Some (held_at (kept_at conn (facts_of c past) h))) at_hop
    ∙ ap Some (held_by-held (route_of conn) (facts_of c past) lawful hop)
    ∙ ap (λ fs. Some (held_of fs hop)) (sym is.facts_are)

-- the newest number at the port is that of the facts
pub newest_there :
    (net : Topology) (past : Past) (c : ℕ) (conn : Conn) (facts : List Fact) (hop port : ℕ) (ports : List Table) (table : Table) → IsConnAt net past c conn facts →
    ArePorts net past ports → port_at conn.path hop ≡ Some port → port < length ports → slice_get ports port ≡ Some table →
    option_map (λ r. r.reservation.newest) (connection_at table conn.vc) ≡ Some (newest_of facts hop)
newest_there net past c conn facts hop port ports table is are has low table_at =
    let tells = port_tells conn.path hop port has in
    let at_hop = at_its_hop net past c conn facts hop port is tells.0 tells.1 in
    let low_hop = (is_hop_tells (length conn.path) hop tells.0).0 in
    let some : Rattle.abt_net.specs.Paths.hop_of conn.path port ≢ 0 = λ none. omega arith in
    let table_is : table ≡ port_table net past port = (let e = sym table_at ∙ port_has net past ports port are low in cc) in
    let row = tables_have_rows net past is.rules c port conn is.known some in
    ap (λ t. option_map (λ r. r.reservation.newest) (connection_at t conn.vc)) table_is
    ∙ ap (option_map (λ r. r.reservation.newest)) row
    ∙ ap (λ h. Some (newest_of (facts_of c past) h)) at_hop
    ∙ ap (λ fs. Some (newest_of fs hop)) (sym is.facts_are)

-- the verdict of the port, and its table then
pub record IsJudged (net : Topology) (past : Past) (c : ℕ) (conn : Conn) (facts : List Fact) (cell at port : ℕ) (table : Table) : Type 0 where
  pub said : outcome_of net past (Arrive c cell at) ≡ Arrived (verdict_at conn.tau facts at (held_of facts 1))
  pub verdict : arrival_at table conn.vc at ≡ Ok (verdict_at conn.tau facts at (held_of facts 1))
  pub becomes : table_after_arrival table conn.vc at ≡ port_table net (after_event net past (Arrive c cell at)) port

pub judged :
    (net : Topology) (past : Past) (c : ℕ) (conn : Conn) (facts : List Fact) (cell at port : ℕ) (ports : List Table) (table : Table) → IsConnAt net past c conn facts →
    ArePorts net past ports → port_at conn.path 1 ≡ Some port → port < length ports → slice_get ports port ≡ Some table → arrival_cause conn facts cell at ≡ None →
    IsJudged net past c conn facts cell at port table
judged net past c conn facts cell at port ports table is are has low table_at none =
    let tells = port_tells conn.path 1 port has in
    let at_hop = at_its_hop net past c conn facts 1 port is tells.0 tells.1 in
    let table_is : table ≡ port_table net past port = (let e = sym table_at ∙ port_has net past ports port are low in cc) in
    let said = arrives net past c conn facts cell at is none in
    let law = arrivals_served net past is.rules (all_lawful net past c conn facts is) c cell at port conn (verdict_at conn.tau facts at (held_of facts 1)) is.known at_hop said in
    record {
      said = said;
      verdict = ap (λ t. arrival_at t conn.vc at) table_is ∙ law.0;
      becomes = ap (λ t. table_after_arrival t conn.vc at) table_is ∙ law.1;
    }

-- an arrival that the port judged
pub arrival_served :
    (net : Topology) (past : Past) (c : ℕ) (conn : Conn) (facts : List Fact) (cell at port : ℕ) (ports : List Table) (table : Table) → IsConnAt net past c conn facts →
    ArePorts net past ports → port_at conn.path 1 ≡ Some port → port < length ports → slice_get ports port ≡ Some table → arrival_cause conn facts cell at ≡ None →
    (after : Table) (rate : ℕ) (verdict : Verdict) → Some rate ≡ option_map held_at (connection_at table conn.vc) → Ok verdict ≡ arrival_at table conn.vc at →
    after ≡ table_after_arrival table conn.vc at →
    Happens net past c (Arrive c cell at) (Arrived verdict) (FactArrived cell at rate verdict ∷ [])
    × ArePorts net (after_event net past (Arrive c cell at)) (slice_set ports port after)
arrival_served net past c conn facts cell at port ports table is are has low table_at none after rate verdict rate_is verdict_is after_is =
    let j = judged net past c conn facts cell at port ports table is are has low table_at none in
    let tells = port_tells conn.path 1 port has in
    let same : verdict ≡ verdict_at conn.tau facts at (held_of facts 1) = (let e = verdict_is ∙ j.verdict in cc) in
    let held : rate ≡ held_of (facts_of c past) 1 = (let e = rate_is ∙ rate_there net past c conn facts 1 port ports table is are has low table_at ∙ ap (λ fs. Some (held_of fs 1)) is.facts_are in cc) in (
      record { answer = ap Arrived same ∙ sym j.said; adds = ap (λ r. FactArrived cell at r verdict ∷ []) held },
      ports_after net past (after_event net past (Arrive c cell at)) ports port after are low (after_is ∙ j.becomes)
          (λ q other. tables_stay net past is.rules (all_lawful net past c conn facts is) (Arrive c cell at) q tt (away net (Arrive c cell at) c conn 1 port q refl is.known refl tells.1 other)),
    )
