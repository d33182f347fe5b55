-- A port serves what comes to it as the facts say.
use Rattle.std.proofs.Common.{◌≡◌, ◌≢◌, ℕ, ◌+◌, ◌-◌, ◌^◌, ◌≤◌, refl, ap, Bool, true, false, List, [], ◌∷◌, ◌++◌, length, ◌∙◌, sym, subst, arith}
use Rattle.std.specs.Prelude.{◌==◌, max, not, if◌then◌else◌, nat_lt, slice_index, unwrap_or, None, Some, Ok}
use Rattle.std.proofs.lemmas.Bool.{ne_eqb, cond-false, le-ltb, cond_both, not-false}
use Rattle.abt_rate.specs.Rate.{spacing_of}
use Rattle.abt_gcra.specs.declared.verdict.Verdict.{Verdict}
use Rattle.abt_gcra.specs.declared.verdict.Verdict.TheVariants.{Conforming}
use Rattle.abt_gcra.specs.Windows.{Arrival}
use Rattle.abt_gcra.specs.Policing.{Policing, policed, due_at}
use Rattle.abt_gcra.proofs.PolicingLemmas.{checked_due}
use Rattle.abt_facts.specs.declared.fact.Fact.{Fact}
use Rattle.abt_facts.specs.declared.fact.Fact.TheVariants.{Arrived}
use Rattle.abt_model.specs.declared.event.Event.TheVariants.{Arrive, Request, Answer}
use Rattle.abt_model.specs.declared.outcome.Outcome.{Outcome}
use Rattle.abt_net.specs.declared.conn.Conn.{Conn}
use Rattle.abt_node.specs.declared.reply.Onward.{Onward}
use Rattle.abt_node.specs.declared.reply.Back.{Back as Returned}
use Rattle.abt_model.specs.declared.outcome.Outcome.TheVariants.{Requested, Answered}
use Rattle.abt_facts.specs.Sent.{request_is_at, answer_is_at}
use Rattle.abt_facts.specs.Hop.{held_of}
use Rattle.abt_facts.specs.Cells.{taken_of}
use Rattle.abt_net.specs.Topology.{Topology, IsWithinRules}
use Rattle.abt_model.specs.Past.{Past, facts_of}
use Rattle.abt_model.specs.Reserved.{reserved_on, capacity_of}
use Rattle.abt_net.specs.Paths.{hop_of}
use Rattle.abt_cell.specs.Message.{answer_to}
use Rattle.abt_source.specs.SourceFacts.{request_of}
use Rattle.abt_model.specs.Answers.{is_hop, answer_by}
use Rattle.abt_model.specs.Outcomes.{request_adds, answer_adds, facts_added, after_event}
use Rattle.abt_model.specs.PortTable.{due_after, policing_by, kept_at, port_table, RequestsServed, AnswersServed, ArrivalsServed}
use Rattle.abt_model.specs.Decision.{reservation_at}
use Rattle.abt_node.specs.Reservation.{Reservation, held_by, decision_of, answer_of}
use Rattle.abt_node.specs.Table.{sum_of, connection_at, reply_by, table_by, reply_to, answer_by as answer_kept, table_by_answer, arrival_by, arrival_of, policing_after, table_by_arrival}
use Rattle.abt_model.proofs.Chain.{at_asked, asked_last}
use Rattle.abt_net.proofs.PathLemmas.{hop_of-port}
use Rattle.abt_model.proofs.Worlds.{other_conn, facts_of-own, facts_of-other, outcome_of-known, AllLawful, lawful_at}
use Rattle.abt_model.proofs.AnswerRows.{answer_reserved, request_polices, answer_polices}
use Rattle.abt_model.proofs.Lawful.{route_of, IsAtHop}
use Rattle.abt_model.proofs.Capacities.{capacity_of-own}
use Rattle.abt_model.proofs.Tables.{tables_have_rows, table_with, totals_reserved}
use Rattle.abt_model.proofs.Served.{arrive_tells, conn_within, arrivals_in_range}
use Rattle.abt_model.proofs.Arrivals.{tat, arrival, timely}
use Rattle.abt_model.proofs.Decisions.{held_by-held, decided, decided_back}
use Rattle.abt_model.proofs.Steps.{is_hop_tells, request_at_tells}
use Rattle.abt_model.proofs.Reservations.{hop_decision-decided, request_reserved}

-- what an enabled request tells
request_tells : (conn : Conn) (fs : List Fact) (reserved capacity c j s : ℕ) (o : Onward) → answer_by conn reserved capacity fs (Request c j s) ≡ Requested o →
    (1 ≤ j) × (j ≤ length conn.path) × IsAtHop fs s j × (decided conn.vc fs reserved capacity j s ≡ o)
request_tells conn fs reserved capacity c j s o =
    let P : Outcome → Type 0 = λ out. out ≡ Requested o → (1 ≤ j) × (j ≤ length conn.path) × IsAtHop fs s j × (decided conn.vc fs reserved capacity j s ≡ o) in
    cond_both (not (is_hop (length conn.path) j)) _ _ P (λ e h. absurd (cc))
    (λ e. cond_both (not (request_is_at fs s j)) _ _ P (λ e2 h. absurd (cc))
    (λ e2 h. (
    let hop = is_hop_tells (length conn.path) j (not-false _ e) in
    let is : decided conn.vc fs reserved capacity j s ≡ o = cc in
    (hop.0, hop.1, request_at_tells fs s j hop.0 (not-false _ e2), is))))

answered_tells : (conn : Conn) (fs : List Fact) (reserved capacity c j s : ℕ) (granted : Bool) (o : Returned) → answer_by conn reserved capacity fs (Answer c j s granted) ≡ Answered o →
    (1 ≤ j) × (j ≤ length conn.path) × (answer_is_at (length conn.path) fs s j granted ≡ true) × (decided_back conn.vc fs j s granted ≡ o)
answered_tells conn fs reserved capacity c j s granted o =
    let P : Outcome → Type 0 = λ out. out ≡ Answered o → (1 ≤ j) × (j ≤ length conn.path) × (answer_is_at (length conn.path) fs s j granted ≡ true) × (decided_back conn.vc fs j s granted ≡ o) in
    cond_both (not (is_hop (length conn.path) j)) _ _ P (λ e h. absurd (cc))
    (λ e. cond_both (not (answer_is_at (length conn.path) fs s j granted)) _ _ P (λ e2 h. absurd (cc))
    (λ e2 h. (
    let hop = is_hop_tells (length conn.path) j (not-false _ e) in
    let is : decided_back conn.vc fs j s granted ≡ o = cc in
    (hop.0, hop.1, not-false _ e2, is))))

-- a hop that a port has is its hop
through : (conn : Conn) (p j : ℕ) → hop_of conn.path p ≡ j → 1 ≤ j → hop_of conn.path p ≢ 0
through conn p j is low z = omega arith

-- what a hop keeps, with another reservation and the same policer
kept_with : (conn : Conn) (fs gs : List Fact) (j : ℕ) (r : Reservation) → r ≡ reservation_at gs j → policing_by conn.tau gs ≡ policing_by conn.tau fs →
    record (kept_at conn fs j) { reservation = r } ≡ kept_at conn gs j
kept_with conn fs gs j r is same =
    ap (λ (x : Reservation). record (kept_at conn fs j) { reservation = x }) is
    ∙ ap (λ (x : Policing). record { reservation = reservation_at gs j; policing = if j == 1 then Some x else None }) (sym same)

pub requests_served : (net : Topology) (past : Past) → IsWithinRules net → AllLawful net past → RequestsServed net past
requests_served net past rules lawful c hop seq p conn onward known at_hop said =
    let e = Request c hop seq in
    let fs = facts_of c past in
    let after = after_event net past (Request c hop seq) in
    let law = lawful_at net past lawful c conn known in
    let o_is = outcome_of-known net past (Request c hop seq) c conn refl known in
    let q = slice_index conn.path (hop - 1) in
    let tells = request_tells conn (facts_of c past) (reserved_on net past q) (capacity_of net past q) c hop seq onward (sym o_is ∙ said) in
    let way = through conn p hop at_hop tells.0 in
    let port : q ≡ p = ap (λ h. slice_index conn.path (h - 1)) (sym at_hop) ∙ hop_of-port conn.path p way in
    let decided_is : decided conn.vc (facts_of c past) (reserved_on net past p) (capacity_of net past p) hop seq ≡ onward =
    subst (λ r. decided conn.vc (facts_of c past) (reserved_on net past r) (capacity_of net past r) hop seq ≡ onward) port tells.3 in
    let number = (asked_last (route_of conn) (facts_of c past) law).1 seq (at_asked (route_of conn) (facts_of c past) law seq hop tells.2) in
    let row : connection_at (port_table net past p) conn.vc ≡ Some (kept_at conn (facts_of c past) hop) =
    tables_have_rows net past rules c p conn known way ∙ ap (λ h. Some (kept_at conn (facts_of c past) h)) at_hop in
    let total = totals_reserved net past rules lawful p in
    let request = request_of conn.vc (facts_of c past) seq in
    let table_decision : (ℕ → Onward × Reservation) = λ sum. decision_of (capacity_of net past p) (sum - held_by (reservation_at (facts_of c past) hop)) (reservation_at (facts_of c past) hop) (request_of conn.vc (facts_of c past) seq) in
    let reply : reply_to (port_table net past p) (request_of conn.vc (facts_of c past) seq) ≡ onward =
    ap (reply_by (port_table net past p) (request_of conn.vc (facts_of c past) seq)) row
    ∙ ap (λ sum. (decision_of (capacity_of net past p) (sum - held_by (reservation_at (facts_of c past) hop)) (reservation_at (facts_of c past) hop) (request_of conn.vc (facts_of c past) seq)).0) total
    ∙ hop_decision-decided (route_of conn) conn.vc (facts_of c past) law (reserved_on net past p) (capacity_of net past p) hop seq
    ∙ decided_is in
    let now_is : facts_of c after ≡ request_adds hop seq onward ++ facts_of c past =
    facts_of-own net past (Request c hop seq) c refl ∙ ap (λ (o : Outcome). facts_added (facts_of c past) (Request c hop seq) o ++ facts_of c past) said in
    let left : (decision_of (capacity_of net past p) (sum_of (port_table net past p) - held_by (reservation_at (facts_of c past) hop)) (reservation_at (facts_of c past) hop) (request_of conn.vc (facts_of c past) seq)).1 ≡ reservation_at (facts_of c after) hop =
    ap (λ sum. (decision_of (capacity_of net past p) (sum - held_by (reservation_at (facts_of c past) hop)) (reservation_at (facts_of c past) hop) (request_of conn.vc (facts_of c past) seq)).1) total
    ∙ request_reserved (route_of conn) conn.vc (facts_of c past) law (reserved_on net past p) (capacity_of net past p) hop seq number.0
    ∙ ap (λ (o : Onward). reservation_at (request_adds hop seq o ++ facts_of c past) hop) decided_is
    ∙ ap (λ (l : List Fact). reservation_at l hop) (sym now_is) in
    let polices : policing_by conn.tau (facts_of c after) ≡ policing_by conn.tau (facts_of c past) =
    ap (policing_by conn.tau) now_is ∙ request_polices conn seq hop (facts_of c past) onward in
    let new = kept_with conn (facts_of c past) (facts_of c after) hop _ left polices in
    let placed = table_with net past after c p conn _ rules known way (new ∙ ap (kept_at conn (facts_of c after)) (sym at_hop)) (λ d differ. facts_of-other net past (Request c hop seq) d (other_conn c d differ)) (capacity_of-own net past (Request c hop seq) p c refl) in
    (reply, ap (table_by (port_table net past p) (request_of conn.vc (facts_of c past) seq)) row ∙ placed)

pub answers_served : (net : Topology) (past : Past) → IsWithinRules net → AllLawful net past → AnswersServed net past
answers_served net past rules lawful c hop seq p granted conn back known at_hop said =
    let fs = facts_of c past in
    let after = after_event net past (Answer c hop seq granted) in
    let law = lawful_at net past lawful c conn known in
    let o_is = outcome_of-known net past (Answer c hop seq granted) c conn refl known in
    let q = slice_index conn.path (hop - 1) in
    let tells = answered_tells conn (facts_of c past) (reserved_on net past q) (capacity_of net past q) c hop seq granted back (sym o_is ∙ said) in
    let way = through conn p hop at_hop tells.0 in
    let row : connection_at (port_table net past p) conn.vc ≡ Some (kept_at conn (facts_of c past) hop) =
    tables_have_rows net past rules c p conn known way ∙ ap (λ h. Some (kept_at conn (facts_of c past) h)) at_hop in
    let answer = answer_to (request_of conn.vc (facts_of c past) seq) granted in
    let both : answer_of (reservation_at (facts_of c past) hop) (answer_to (request_of conn.vc (facts_of c past) seq) granted) ≡ (back, reservation_at (answer_adds hop seq granted back ++ facts_of c past) hop) =
    answer_reserved (route_of conn) conn.vc (facts_of c past) law seq hop granted (tells.0, tells.1) tells.2
    ∙ ap (λ (d : Returned). (d, reservation_at (answer_adds hop seq granted d ++ facts_of c past) hop)) tells.3 in
    let now_is : facts_of c after ≡ answer_adds hop seq granted back ++ facts_of c past =
    facts_of-own net past (Answer c hop seq granted) c refl ∙ ap (λ (o : Outcome). facts_added (facts_of c past) (Answer c hop seq granted) o ++ facts_of c past) said in
    let left : (answer_of (reservation_at (facts_of c past) hop) (answer_to (request_of conn.vc (facts_of c past) seq) granted)).1 ≡ reservation_at (facts_of c after) hop =
    ap (λ (x : Returned × Reservation). x.1) both ∙ ap (λ (l : List Fact). reservation_at l hop) (sym now_is) in
    let polices : policing_by conn.tau (facts_of c after) ≡ policing_by conn.tau (facts_of c past) =
    ap (policing_by conn.tau) now_is ∙ answer_polices conn seq hop (facts_of c past) granted back in
    let new = kept_with conn (facts_of c past) (facts_of c after) hop _ left polices in
    let placed = table_with net past after c p conn _ rules known way (new ∙ ap (kept_at conn (facts_of c after)) (sym at_hop)) (λ d differ. facts_of-other net past (Answer c hop seq granted) d (other_conn c d differ)) (capacity_of-own net past (Answer c hop seq granted) p c refl) in (
      ap (answer_kept (answer_to (request_of conn.vc (facts_of c past) seq) granted)) row ∙ ap (λ (x : Returned × Reservation). x.0) both,
      ap (table_by_answer (port_table net past p) (answer_to (request_of conn.vc (facts_of c past) seq) granted)) row ∙ placed,
    )

-- ---- cells

due_is : (cells : List Arrival) (at : ℕ) → unwrap_or (due_after cells) at ≤ max at (tat cells)
due_is [] at = omega arith
due_is (cell ∷ []) at = omega arith
due_is (cell ∷ next ∷ cells) at = let low = due_is (next ∷ cells) cell.at in omega arith

policed_due : (p : Policing) (at held : ℕ) → held ≢ 0 → due_at p at ≤ at + p.tau → policed p at held ≡ (Conforming, record p { tat = Some (max at (due_at p at) + spacing_of held); clock = at })
unfolding policed
policed_due p at held some due = cond-false _ _ _ (ne_eqb held 0 some) ∙ checked_due p at (spacing_of held) due

-- a policer that is served in range
served_at : (p : Policing) (at held : ℕ) → held ≢ 0 → p.clock ≤ at → at ≤ 2 ^ 62 → due_at p at ≤ at + p.tau →
    (arrival_by at held (Some p) ≡ Ok Conforming) × (policing_after at held p ≡ record p { tat = Some (max at (due_at p at) + spacing_of held); clock = at })
served_at p at held some onward within due =
    let is = policed_due p at held some due in
    let not_back : nat_lt at p.clock ≡ false = le-ltb at p.clock onward in
    let in_range : nat_lt 4611686018427387904 at ≡ false = le-ltb 4611686018427387904 at (omega arith) in (
      cond-false _ _ _ not_back ∙ cond-false _ _ _ in_range ∙ ap (λ (x : Verdict × Policing). Ok x.0) is,
      cond-false _ _ _ not_back ∙ cond-false _ _ _ in_range ∙ ap (λ (x : Verdict × Policing). x.1) is,
    )

pub arrivals_served : (net : Topology) (past : Past) → IsWithinRules net → AllLawful net past → ArrivalsServed net past
arrivals_served net past rules lawful c cell at p conn v known at_hop said =
    let fs = facts_of c past in
    let after = after_event net past (Arrive c cell at) in
    let law = lawful_at net past lawful c conn known in
    let o_is = outcome_of-known net past (Arrive c cell at) c conn refl known in
    let may = arrive_tells conn (facts_of c past) cell at v (sym o_is ∙ said) in
    let within = conn_within net rules c conn known in
    let some : 1 ≤ length conn.path = omega (arith, within.has_hop) in
    let finds = arrival (route_of conn) (facts_of c past) law some (timely (route_of conn) (facts_of c past) law some) cell at (held_of (facts_of c past) 1) v may in
    let range = arrivals_in_range net past rules lawful c cell at conn v known said in
    let way = through conn p 1 at_hop (omega arith) in
    let row : connection_at (port_table net past p) conn.vc ≡ Some (kept_at conn (facts_of c past) 1) =
    tables_have_rows net past rules c p conn known way ∙ ap (λ h. Some (kept_at conn (facts_of c past) h)) at_hop in
    let held_is = held_by-held (route_of conn) (facts_of c past) law 1 in
    let holds : held_by (reservation_at (facts_of c past) 1) ≢ 0 = λ z. range.2 (sym held_is ∙ z) in
    let due : due_at (policing_by conn.tau (facts_of c past)) at ≤ at + conn.tau =
    (let low = due_is (taken_of (facts_of c past)) at in let early = finds.1 in let late = may.2 in omega arith) in
    let served = served_at (policing_by conn.tau (facts_of c past)) at (held_by (reservation_at (facts_of c past) 1)) holds range.0 range.1 due in
    let now_is : facts_of c after ≡ Arrived cell at (held_of (facts_of c past) 1) v ∷ facts_of c past =
    facts_of-own net past (Arrive c cell at) c refl ∙ ap (λ (o : Outcome). facts_added (facts_of c past) (Arrive c cell at) o ++ facts_of c past) said in
    let conforming : facts_of c after ≡ Arrived cell at (held_by (reservation_at (facts_of c past) 1)) Conforming ∷ facts_of c past =
    now_is ∙ ap (λ (u : Verdict). Arrived cell at (held_of (facts_of c past) 1) u ∷ facts_of c past) finds.0
    ∙ ap (λ r. Arrived cell at r Conforming ∷ facts_of c past) (sym held_is) in
    let polices : policing_after at (held_by (reservation_at (facts_of c past) 1)) (policing_by conn.tau (facts_of c past)) ≡ policing_by conn.tau (facts_of c after) =
    served.1 ∙ ap (policing_by conn.tau) (sym conforming) in
    let rows : reservation_at (facts_of c past) 1 ≡ reservation_at (facts_of c after) 1 = ap (λ (l : List Fact). reservation_at l 1) (sym now_is) in
    let new : record (kept_at conn (facts_of c past) 1) { policing = Some (policing_after at (held_by (reservation_at (facts_of c past) 1)) (policing_by conn.tau (facts_of c past))) } ≡ kept_at conn (facts_of c after) 1 =
    ap (λ (x : Policing). record (kept_at conn (facts_of c past) 1) { policing = Some x }) polices
    ∙ ap (λ (x : Reservation). record { reservation = x; policing = Some (policing_by conn.tau (facts_of c after)) }) rows in
    let placed = table_with net past after c p conn _ rules known way (new ∙ ap (kept_at conn (facts_of c after)) (sym at_hop)) (λ d differ. facts_of-other net past (Arrive c cell at) d (other_conn c d differ)) (capacity_of-own net past (Arrive c cell at) p c refl) in (
      ap (arrival_of at) row ∙ served.0 ∙ ap Ok (sym finds.0),
      ap (table_by_arrival (port_table net past p) conn.vc at) row ∙ placed,
    )
