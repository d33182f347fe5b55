use Rattle.std.proofs.Common.{◌<◌, sym, ◌∙◌, ap, arith, length}
use Rattle.std.specs.Prelude.{Some}
use Rattle.std.proofs.lemmas.Bool.{false≢true}
use Rattle.std.proofs.lemmas.Option.{slice_get-get_or}
use Rattle.abt_actor.specs.Facts.{facts_in}
use Rattle.abt_model.proofs.Lawful.{route_of}
use Rattle.abt_model.proofs.Steps.{is_hop_tells}
use Rattle.abt_world.proofs.Sendings.{conn_lawful, request_asked, is_request}
use Rattle.abt_world.proofs.Serving.{request_served, port_within, port_tells}
use Rattle.abt_node.proofs.TableLemmas.{request_leaves_others}
use Rattle.abt_world.specs.Steps.{port_at}
use Rattle.abt_world.proofs.Touching.{untouched, touched}
use Rattle.abt_node.specs.Table.{Table, connection_at}
use Rattle.abt_world.proofs.hops.request.Goals as goal

pub returns-in_default-request_of-clause-outcome : goal.returns-in_default-request_of-clause-outcome
returns-in_default-request_of-clause-outcome c net past facts is at are =
    let l = route_of c.args.conn.now in
    let lawful = conn_lawful net past c.args.place c.args.conn.now facts at in
    let hop = is_hop_tells _ c.args.hop (port_tells c.args.conn.now.path c.args.hop c.in-Some.port (sym c.in-Some.ensures)).0 in
    let r = is_request l facts lawful c.args.seq (request_asked l facts lawful c.args.seq c.args.hop (sym (c.if-not-is_request_at.ensures.value facts is hop.0))) in
    absurd (false≢true (c.in_default-request_of.ensures.some facts is r.asked r.positive r.order))

pub returns-then-port-ports-clause-outcome : goal.returns-then-port-ports-clause-outcome
returns-then-port-ports-clause-outcome c net past facts is at are =
    let low = port_within net past c.args.place c.args.conn.now facts c.args.hop c.in-Some.port c.args.ports.now at are (sym c.in-Some.ensures) in
    let place = c.from-port.ensures in
    let past_end = c.if-port-ports.true in
    absurd (omega arith)

pub returns-clause-outcome : goal.returns-clause-outcome
returns-clause-outcome c net past facts is at are =
    let counted = c.counting.ensures.value in
    let within = c.if-port-ports.false in
    let port = c.counting.result in
    let low : port < length c.args.ports.now = omega arith in
    let has = sym c.in-Some.ensures ∙ ap Some (sym (counted ∙ c.from-port.ensures)) in
    let hop = is_hop_tells _ c.args.hop (port_tells c.args.conn.now.path c.args.hop port has).0 in
    request_served net past c.args.place c.args.conn.now facts c.args.hop c.args.seq port c.args.ports.now at are has
    (sym (c.if-not-is_request_at.ensures.value facts is hop.0)) low _ c.request-onward.new.self c.in-Some-request_of.request c.request-onward.result (facts_in c.request_adds.result)
    (slice_get-get_or c.args.ports.now port c.index-ports-counting.result low) (c.in-Some-request_of.ensures.value facts is) c.request-onward.ensures.value c.request-onward.ensures.table c.request_adds.ensures

pub returns-then-not-is_request_at-clause-touches : goal.returns-then-not-is_request_at-clause-touches
returns-then-not-is_request_at-clause-touches c = untouched (port_at c.args.conn.now.path c.args.hop) c.args.conn.now.vc c.args.ports.now

pub returns-in_default-request_of-clause-touches : goal.returns-in_default-request_of-clause-touches
returns-in_default-request_of-clause-touches c = untouched (port_at c.args.conn.now.path c.args.hop) c.args.conn.now.vc c.args.ports.now

pub returns-then-port-ports-clause-touches : goal.returns-then-port-ports-clause-touches
returns-then-port-ports-clause-touches c = untouched (port_at c.args.conn.now.path c.args.hop) c.args.conn.now.vc c.args.ports.now

pub returns-clause-touches : goal.returns-clause-touches
returns-clause-touches c =
    let counted = c.counting.ensures.value in
    let within = c.if-port-ports.false in
    let ports = c.args.ports.now in
    let port = c.counting.result in
    let low : port < length ports = omega arith in
    let there = slice_get-get_or ports port c.index-ports-counting.result low in
    touched (port_at c.args.conn.now.path c.args.hop) port c.args.conn.now.vc ports _ c.request-onward.new.self (sym c.in-Some.ensures ∙ ap Some (sym (counted ∙ c.from-port.ensures))) there
    (λ other apart. ap (λ (t : Table). connection_at t other) c.request-onward.ensures.table
    ∙ request_leaves_others _ c.in-Some-request_of.request other (λ same. apart (same ∙ c.in-Some-request_of.ensures.vc)))

pub returns-in_default-request_of-clause-counted : goal.returns-in_default-request_of-clause-counted
returns-in_default-request_of-clause-counted c net past facts is at are room =
    let l = route_of c.args.conn.now in
    let lawful = conn_lawful net past c.args.place c.args.conn.now facts at in
    let hop = is_hop_tells _ c.args.hop (port_tells c.args.conn.now.path c.args.hop c.in-Some.port (sym c.in-Some.ensures)).0 in
    let r = is_request l facts lawful c.args.seq (request_asked l facts lawful c.args.seq c.args.hop (sym (c.if-not-is_request_at.ensures.value facts is hop.0))) in
    absurd (false≢true (c.in_default-request_of.ensures.some facts is r.asked r.positive r.order))

pub returns-then-port-ports-clause-counted : goal.returns-then-port-ports-clause-counted
returns-then-port-ports-clause-counted c net past facts is at are room =
    let low = port_within net past c.args.place c.args.conn.now facts c.args.hop c.in-Some.port c.args.ports.now at are (sym c.in-Some.ensures) in
    let place = c.from-port.ensures in
    let past_end = c.if-port-ports.true in
    absurd (omega arith)
