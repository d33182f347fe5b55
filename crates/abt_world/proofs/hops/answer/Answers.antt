use Rattle.std.proofs.Common.{◌≡◌, ℕ, ◌+◌, ◌<◌, Bool, true, false, List, refl, sym, ◌∙◌, ap, arith, length}
use Rattle.std.specs.Prelude.{Some, nat_lt}
use Rattle.std.proofs.lemmas.Bool.{false≢true, and_parts}
use Rattle.std.proofs.lemmas.Option.{slice_get-get_or}
use Rattle.abt_cell.specs.Message.{Terms, answer_to}
use Rattle.abt_actor.specs.Facts.{facts_in}
use Rattle.abt_facts.specs.declared.fact.Fact.{Fact}
use Rattle.abt_facts.specs.Sent.{answer_is_at}
use Rattle.abt_model.proofs.Lawful.{route_of}
use Rattle.abt_model.proofs.Steps.{is_hop_tells}
use Rattle.abt_safety.specs.Tallies.{one_if}
use Rattle.abt_world.specs.Looked.{looks_at_answer}
use Rattle.abt_world.proofs.Sendings.{conn_lawful, few_hops, answer_asked, is_request}
use Rattle.abt_world.proofs.Serving.{answer_served, answer_absent, port_within, port_tells}
use Rattle.abt_node.proofs.TableLemmas.{answer_leaves_others}
use Rattle.abt_world.specs.Steps.{port_at}
use Rattle.abt_world.proofs.Touching.{untouched, touched}
use Rattle.abt_node.specs.Table.{Table, connection_at}
use Rattle.abt_cell.specs.Message.{Reply}
use Rattle.abt_world.proofs.hops.answer.Goals as goal

pub returns-then-not-is_answer_at-clause-outcome : goal.returns-then-not-is_answer_at-clause-outcome
returns-then-not-is_answer_at-clause-outcome c net past facts is at are =
    let conn = c.args.conn.now in
    let few = few_hops net past c.args.place conn facts at in
    let tells = port_tells conn.path c.args.hop c.in-Some.port (sym c.in-Some.ensures) in
    let hop = is_hop_tells _ c.args.hop tells.0 in
    let high = hop.1 in
    let hops = c.hops_of.ensures few in
    let absent = c.if-not-is_answer_at.ensures.value facts is (omega arith) ∙ ap (λ h. answer_is_at h facts c.args.seq c.args.hop c.args.granted) hops in
    rw c.not_enabled-then-not-is_answer_at.ensures (answer_absent net past c.args.place conn facts c.args.hop c.args.seq c.args.granted c.args.ports.now at are tells.0 (sym absent))

pub returns-in_default-request_of-clause-outcome : goal.returns-in_default-request_of-clause-outcome
returns-in_default-request_of-clause-outcome c net past facts is at are =
    let conn = c.args.conn.now in
    let few = few_hops net past c.args.place conn facts at in
    let l = route_of conn in
    let lawful = conn_lawful net past c.args.place conn facts at in
    let hop = is_hop_tells _ c.args.hop (port_tells conn.path c.args.hop c.in-Some.port (sym c.in-Some.ensures)).0 in
    let high = hop.1 in
    let there = c.if-not-is_answer_at.ensures.value facts is (omega arith) in
    let r = is_request l facts lawful c.args.seq (answer_asked l facts lawful c.hops_of.result c.args.seq c.args.hop c.args.granted (sym there)) in
    absurd (false≢true (c.in_default-request_of.ensures.some facts is r.asked r.positive r.order))

pub returns-then-port-ports-clause-outcome : goal.returns-then-port-ports-clause-outcome
returns-then-port-ports-clause-outcome c net past facts is at are =
    let low = port_within net past c.args.place c.args.conn.now facts c.args.hop c.in-Some.port c.args.ports.now at are (sym c.in-Some.ensures) in
    let place = c.from-port.ensures in
    let past_end = c.if-port-ports.true in
    absurd (omega arith)

pub returns-clause-outcome : goal.returns-clause-outcome
returns-clause-outcome c net past facts is at are =
    let conn = c.args.conn.now in
    let few = few_hops net past c.args.place conn facts at in
    let counted = c.counting.ensures.value in
    let within = c.if-port-ports.false in
    let port = c.counting.result in
    let low : port < length c.args.ports.now = omega arith in
    let has = sym c.in-Some.ensures ∙ ap Some (sym (counted ∙ c.from-port.ensures)) in
    let hop = is_hop_tells _ c.args.hop (port_tells conn.path c.args.hop port has).0 in
    let high = hop.1 in
    let hops = c.hops_of.ensures few in
    let there = c.if-not-is_answer_at.ensures.value facts is (omega arith) ∙ ap (λ h. answer_is_at h facts c.args.seq c.args.hop c.args.granted) hops in
    answer_served net past c.args.place conn facts c.args.hop c.args.seq port c.args.granted c.args.ports.now at are has
    (sym there) low _ c.answer-back.new.self c.of.result c.answer-back.result (facts_in c.answer_adds.result)
    (slice_get-get_or c.args.ports.now port c.index-ports-counting.result low)
    (c.of.ensures ∙ ap (λ (r : Terms). answer_to r c.args.granted) (c.in-Some-request_of.ensures.value facts is)) c.answer-back.ensures.value c.answer-back.ensures.table c.answer_adds.ensures

pub returns-then-not-is_answer_at-clause-touches : goal.returns-then-not-is_answer_at-clause-touches
returns-then-not-is_answer_at-clause-touches c = untouched (port_at c.args.conn.now.path c.args.hop) c.args.conn.now.vc c.args.ports.now

pub returns-in_default-request_of-clause-touches : goal.returns-in_default-request_of-clause-touches
returns-in_default-request_of-clause-touches c = untouched (port_at c.args.conn.now.path c.args.hop) c.args.conn.now.vc c.args.ports.now

pub returns-then-port-ports-clause-touches : goal.returns-then-port-ports-clause-touches
returns-then-port-ports-clause-touches c = untouched (port_at c.args.conn.now.path c.args.hop) c.args.conn.now.vc c.args.ports.now

pub returns-clause-touches : goal.returns-clause-touches
returns-clause-touches c =
    let counted = c.counting.ensures.value in
    let within = c.if-port-ports.false in
    let ports = c.args.ports.now in
    let port = c.counting.result in
    let low : port < length ports = omega arith in
    let there = slice_get-get_or ports port c.index-ports-counting.result low in
    let vc = ap (λ (a : Reply). a.terms.vc) c.of.ensures ∙ c.in-Some-request_of.ensures.vc in
    touched (port_at c.args.conn.now.path c.args.hop) port c.args.conn.now.vc ports _ c.answer-back.new.self (sym c.in-Some.ensures ∙ ap Some (sym (counted ∙ c.from-port.ensures))) there
    (λ other apart. ap (λ (t : Table). connection_at t other) c.answer-back.ensures.table ∙ answer_leaves_others _ c.of.result other (λ same. apart (same ∙ vc)))

pub returns-in_default-request_of-clause-counted : goal.returns-in_default-request_of-clause-counted
returns-in_default-request_of-clause-counted c net past facts is at are room =
    let conn = c.args.conn.now in
    let few = few_hops net past c.args.place conn facts at in
    let l = route_of conn in
    let lawful = conn_lawful net past c.args.place conn facts at in
    let hop = is_hop_tells _ c.args.hop (port_tells conn.path c.args.hop c.in-Some.port (sym c.in-Some.ensures)).0 in
    let high = hop.1 in
    let there = c.if-not-is_answer_at.ensures.value facts is (omega arith) in
    let r = is_request l facts lawful c.args.seq (answer_asked l facts lawful c.hops_of.result c.args.seq c.args.hop c.args.granted (sym there)) in
    absurd (false≢true (c.in_default-request_of.ensures.some facts is r.asked r.positive r.order))

pub returns-then-port-ports-clause-counted : goal.returns-then-port-ports-clause-counted
returns-then-port-ports-clause-counted c net past facts is at are room =
    let low = port_within net past c.args.place c.args.conn.now facts c.args.hop c.in-Some.port c.args.ports.now at are (sym c.in-Some.ensures) in
    let place = c.from-port.ensures in
    let past_end = c.if-port-ports.true in
    absurd (omega arith)

-- an answer that lies at a hop was looked for there
one_look : (hops : ℕ) (facts : List Fact) (seq hop : ℕ) (granted : Bool) → answer_is_at hops facts seq hop granted ≡ true → looks_at_answer hops hop granted ≡ 1
one_look hops facts seq hop true there = refl
one_look hops facts seq hop false there = ap one_if (and_parts (nat_lt hop hops) _ there).0

pub returns-clause-counted : goal.returns-clause-counted
returns-clause-counted c net past facts is at are room =
    let conn = c.args.conn.now in
    let few = few_hops net past c.args.place conn facts at in
    let hop = is_hop_tells _ c.args.hop (port_tells conn.path c.args.hop c.in-Some.port (sym c.in-Some.ensures)).0 in
    let high = hop.1 in
    let there = c.if-not-is_answer_at.ensures.value facts is (omega arith) in
    let first = c.if-not-is_answer_at.ensures.counted (omega arith) (omega arith) ∙ ap (λ n. c.args.looks.now + n) (one_look c.hops_of.result facts c.args.seq c.args.hop c.args.granted (sym there)) in
    let second = c.in-Some-request_of.ensures.counted (omega (arith, first)) in
    let third = c.counting.ensures.count in
    omega (arith, first, second, third)
