-- The line of the net goes out, and then the others.
use Rattle.std.proofs.Common.{arith, [], ◌∷◌}
use Rattle.abt_journal_text.specs.Lines.{body_lines}
use Rattle.abt_journal_text.specs.NetJson.{line_of, net_json}
use Rattle.abt_journal_text.proofs.Sending.{stops_first, writes_behind}
use Rattle.abt_journal_text.proofs.writing.write_journals.Goals as goal

pub put_bodies-requires-clause-ports : goal.put_bodies-requires-clause-ports
put_bodies-requires-clause-ports g c =
    let few = c.capacities.ensures.rules.ports in
    let same = c.requires.ports in
    omega (arith, few, same)

pub put_bodies-requires-clause-sources : goal.put_bodies-requires-clause-sources
put_bodies-requires-clause-sources g c =
    let few = c.capacities.ensures.rules.connections in
    let same = c.requires.sources in
    omega (arith, few, same)

pub returns-in-Err : goal.returns-in-Err
returns-in-Err g c =
    stops_first (line_of (net_json c.args.net.now) ∷ []) (body_lines c.args.journals.now c.args.sources.now) c.in-Err.fault _ _
    (rw c.in-Ok.ensures at c.in-Err.ensures.writes)

pub returns : goal.returns
returns g c =
    writes_behind c.put_bodies.result (line_of (net_json c.args.net.now) ∷ []) (body_lines c.args.journals.now c.args.sources.now) _ _ _
    (rw c.in-Ok.ensures at c.in_default-put_line.ensures.writes) c.put_bodies.ensures
