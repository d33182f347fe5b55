use Rattle.std.proofs.Common.{◌≡◌, ◌<◌, ℕ, List, sym, ◌∙◌, ap, arith, length}
use Rattle.std.specs.Prelude.{Some, slice_index_or, option_map}
use Rattle.std.proofs.lemmas.Option.{slice_get-get_or}
use Rattle.abt_node.specs.Table.{held_at, connection_at, arrival_at, table_after_arrival}
use Rattle.abt_world.proofs.Serving.{port_within}
use Rattle.abt_world.proofs.Arriving.{first_hop, rate_there, judged, arrival_served}
use Rattle.abt_world.specs.Steps.{port_at}
use Rattle.abt_world.proofs.Touching.{untouched, touched, arrival_leaves_others}
use Rattle.abt_node.specs.Table.{Table}
use Rattle.abt_world.proofs.cells.arrive.Goals as goal

-- an element that is there is the same with any default
same_element : {A : Type 0} (xs : List A) (i : ℕ) (d e : A) → i < length xs → slice_index_or xs i d ≡ slice_index_or xs i e
same_element xs i d e low = let both = sym (slice_get-get_or xs i d low) ∙ slice_get-get_or xs i e low in cc

pub returns-in_default-port_at-clause-outcome : goal.returns-in_default-port_at-clause-outcome
returns-in_default-port_at-clause-outcome c net past facts log is are count =
    absurd (let e = c.in_default-port_at.ensures ∙ first_hop net past c.args.place c.args.conn.now facts is in cc)

pub returns-then-port-ports-clause-outcome : goal.returns-then-port-ports-clause-outcome
returns-then-port-ports-clause-outcome c net past facts log is are count =
    let low = port_within net past c.args.place c.args.conn.now facts 1 c.in-Some-port_at.port c.args.ports.now is are (sym c.in-Some-port_at.ensures) in
    let place = c.from-port.ensures in
    let past_end = c.if-port-ports.true in
    absurd (omega arith)

pub returns-in_default-held-clause-outcome : goal.returns-in_default-held-clause-outcome
returns-in_default-held-clause-outcome c net past facts log is are count =
    let counted = c.counting.ensures.value in
    let within = c.if-port-ports.false in
    let port = c.counting.result in
    let low : port < length c.args.ports.now = omega arith in
    let has = sym c.in-Some-port_at.ensures ∙ ap Some (sym (counted ∙ c.from-port.ensures)) in
    let there = rate_there net past c.args.place c.args.conn.now facts 1 port c.args.ports.now _ is are has low
    (slice_get-get_or c.args.ports.now port c.index-ports-counting.result low) in
    absurd (let e = c.in_default-held.ensures ∙ there in cc)

pub returns-in_default-arrive-clause-outcome : goal.returns-in_default-arrive-clause-outcome
returns-in_default-arrive-clause-outcome c net past facts log is are count =
    let counted = c.counting-2.ensures.value in
    let within = c.if-port-ports.false in
    let port = c.counting-2.result in
    let low : port < length c.args.ports.now = omega arith in
    let has = sym c.in-Some-port_at.ensures ∙ ap Some (sym (counted ∙ c.from-port.ensures)) in
    let j = judged net past c.args.place c.args.conn.now facts c.args.cell c.args.at port c.args.ports.now _ is are has low
    (slice_get-get_or c.args.ports.now port c.index-ports-counting-2.result low) (sym (c.in_default.ensures.value facts log count)) in
    absurd (let e = c.in_default-arrive.ensures.value ∙ j.verdict in cc)

pub returns-clause-outcome : goal.returns-clause-outcome
returns-clause-outcome c net past facts log is are count =
    let counted = c.counting-2.ensures.value in
    let first : c.counting.result ≡ c.counting-2.result = c.counting.ensures.value ∙ sym counted in
    let within = c.if-port-ports.false in
    let ports = c.args.ports.now in
    let port = c.counting-2.result in
    let low : port < length ports = omega arith in
    let has = sym c.in-Some-port_at.ensures ∙ ap Some (sym (counted ∙ c.from-port.ensures)) in
    let there = λ (n : ℕ). slice_index_or ports n c.index-ports-counting.result in
    let same = same_element ports port c.index-ports-counting-2.result c.index-ports-counting.result low in
    arrival_served net past c.args.place c.args.conn.now facts c.args.cell c.args.at port ports _ is are has low
    (slice_get-get_or ports port c.index-ports-counting.result low) (sym (c.in_default.ensures.value facts log count)) c.arrive.new.self c.in-Some-held.rate c.in-Ok.verdict
    (c.in-Some-held.ensures ∙ ap (λ n. option_map held_at (connection_at (there n) c.args.conn.now.vc)) first)
    (c.in-Ok.ensures.value ∙ ap (λ t. arrival_at t c.args.conn.now.vc c.args.at) same)
    (c.in-Ok.ensures.table ∙ ap (λ t. table_after_arrival t c.args.conn.now.vc c.args.at) same)

pub returns-in-Some-clause-touches : goal.returns-in-Some-clause-touches
returns-in-Some-clause-touches c = untouched (port_at c.args.conn.now.path 1) c.args.conn.now.vc c.args.ports.now

pub returns-in_default-port_at-clause-touches : goal.returns-in_default-port_at-clause-touches
returns-in_default-port_at-clause-touches c = untouched (port_at c.args.conn.now.path 1) c.args.conn.now.vc c.args.ports.now

pub returns-then-port-ports-clause-touches : goal.returns-then-port-ports-clause-touches
returns-then-port-ports-clause-touches c = untouched (port_at c.args.conn.now.path 1) c.args.conn.now.vc c.args.ports.now

pub returns-in_default-held-clause-touches : goal.returns-in_default-held-clause-touches
returns-in_default-held-clause-touches c = untouched (port_at c.args.conn.now.path 1) c.args.conn.now.vc c.args.ports.now

pub returns-in_default-arrive-clause-touches : goal.returns-in_default-arrive-clause-touches
returns-in_default-arrive-clause-touches c =
    let counted = c.counting-2.ensures.value in
    let within = c.if-port-ports.false in
    let ports = c.args.ports.now in
    let port = c.counting-2.result in
    let low : port < length ports = omega arith in
    let there = slice_get-get_or ports port c.index-ports-counting-2.result low in
    touched (port_at c.args.conn.now.path 1) port c.args.conn.now.vc ports _ c.arrive.new.self (sym c.in-Some-port_at.ensures ∙ ap Some (sym (counted ∙ c.from-port.ensures))) there
    (λ other apart. ap (λ (t : Table). connection_at t other) c.in_default-arrive.ensures.table ∙ arrival_leaves_others _ c.args.conn.now.vc c.args.at other apart)

pub returns-clause-touches : goal.returns-clause-touches
returns-clause-touches c =
    let counted = c.counting-2.ensures.value in
    let within = c.if-port-ports.false in
    let ports = c.args.ports.now in
    let port = c.counting-2.result in
    let low : port < length ports = omega arith in
    let there = slice_get-get_or ports port c.index-ports-counting-2.result low in
    touched (port_at c.args.conn.now.path 1) port c.args.conn.now.vc ports _ c.arrive.new.self (sym c.in-Some-port_at.ensures ∙ ap Some (sym (counted ∙ c.from-port.ensures))) there
    (λ other apart. ap (λ (t : Table). connection_at t other) c.in-Ok.ensures.table ∙ arrival_leaves_others _ c.args.conn.now.vc c.args.at other apart)

pub returns-in_default-held-clause-counted : goal.returns-in_default-held-clause-counted
returns-in_default-held-clause-counted c net past facts log is are count room =
    let counted = c.counting.ensures.value in
    let within = c.if-port-ports.false in
    let port = c.counting.result in
    let low : port < length c.args.ports.now = omega arith in
    let has = sym c.in-Some-port_at.ensures ∙ ap Some (sym (counted ∙ c.from-port.ensures)) in
    let there = rate_there net past c.args.place c.args.conn.now facts 1 port c.args.ports.now _ is are has low
    (slice_get-get_or c.args.ports.now port c.index-ports-counting.result low) in
    absurd (let e = c.in_default-held.ensures ∙ there in cc)

pub returns-in_default-arrive-clause-counted : goal.returns-in_default-arrive-clause-counted
returns-in_default-arrive-clause-counted c net past facts log is are count room =
    let counted = c.counting-2.ensures.value in
    let within = c.if-port-ports.false in
    let port = c.counting-2.result in
    let low : port < length c.args.ports.now = omega arith in
    let has = sym c.in-Some-port_at.ensures ∙ ap Some (sym (counted ∙ c.from-port.ensures)) in
    let j = judged net past c.args.place c.args.conn.now facts c.args.cell c.args.at port c.args.ports.now _ is are has low
    (slice_get-get_or c.args.ports.now port c.index-ports-counting-2.result low) (sym (c.in_default.ensures.value facts log count)) in
    absurd (let e = c.in_default-arrive.ensures.value ∙ j.verdict in cc)
