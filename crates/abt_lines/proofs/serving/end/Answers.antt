-- The last line isn't answered, or what is said behind it isn't there.
use Rattle.std.proofs.Common.{◌∙◌, refl}
use Rattle.abt_lines.proofs.Fed.{ended_all, ended_before, ended_behind}
use Rattle.abt_lines.proofs.Pieces.{if_err-from}
use Rattle.abt_lines.proofs.serving.end.Goals as goal

pub returns-in_err-end_line-clause-fault : goal.returns-in_err-end_line-clause-fault
returns-in_err-end_line-clause-fault g c =
    let part = ended_before g.S.LineServer.steps c.args.server.now _ _ _ c.in_err-end_line.field-0.0 (c.in_err-end_line.ensures.err ∙ c.clear.ensures.bytes)
    c.in_err-end_line.ensures.fault c.in_err-end_line.ensures.some in
    if_err-from c.from_residual.result _ _ (λ fault is. rw is part) c.from_residual.ensures.1

pub returns-in_err-end-clause-fault : goal.returns-in_err-end-clause-fault
returns-in_err-end-clause-fault g c =
    let part = ended_behind g.S.LineServer.steps _ _ _ c.args.begun.now.octets.items _ _ _ c.in_ok-end_line.ensures.ok c.clear.ensures.bytes refl in
    if_err-from c.from_residual-in_err-end.result _ _ (λ fault is. rw is part) c.from_residual-in_err-end.ensures.1

pub returns-in_err-add_next-clause-fault : goal.returns-in_err-add_next-clause-fault
returns-in_err-add_next-clause-fault g c =
    let part = ended_behind g.S.LineServer.steps _ _ _ c.args.begun.now.octets.items _ _ _ c.in_ok-end_line.ensures.ok c.clear.ensures.bytes
    c.in_err-add_next.ensures.err in
    if_err-from c.from_residual-in_err-add_next.result _ _ (λ fault is. rw is part) c.from_residual-in_err-add_next.ensures.1

pub returns-clause-ok : goal.returns-clause-ok
returns-clause-ok g c =
    ended_all g.S.LineServer.steps g.S.LineServer.ends _ _ _ _ c.args.begun.now.octets.items _ _ _ _ c.in_ok-end_line.ensures.ok c.clear.ensures.bytes
    c.in_ok-end_line.ensures.number c.in_ok-add_next.ensures.ok c.in_ok-end.ensures
