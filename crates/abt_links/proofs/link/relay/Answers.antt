use Rattle.std.proofs.Common.{rules, ◌≡◌, Some, Ok, sym, ◌∙◌}
use Rattle.abt_links.proofs.Grown.{messages-served, caller-served, wound-served, memory-served, follows-served, served_there, at_its_port}
use Rattle.abt_links.proofs.link.relay.Goals as goal

pub deliver-served-requires : goal.deliver-served-requires
deliver-served-requires g c =
    let there = c.in-Some.ensures.lookup in
    record { port = c.in-Some-letter.ensures.0 ∙ (sym (c.from.ensures ∙ c.port.ensures) ∙ at_its_port c.args.router.now.net.now c.args.cells.now c.from.result c.in-Some.cell.now c.requires.cells there.0 there.1) }

pub returns-in_err-reply-clause-caller : goal.returns-in_err-reply-clause-caller
returns-in_err-reply-clause-caller g c =
    caller-served c.deliver-served.result c.args.seat.now c.deliver-served.new.seat _ _ c.deliver-served.ensures.receipt c.deliver-served.ensures.same

pub returns-in_err-reply-clause-messages : goal.returns-in_err-reply-clause-messages
returns-in_err-reply-clause-messages g c =
    messages-served c.deliver-served.result c.args.seat.now c.deliver-served.new.seat _ _ c.deliver-served.ensures.receipt c.deliver-served.ensures.same

pub returns-in_err-reply-clause-wound : goal.returns-in_err-reply-clause-wound
returns-in_err-reply-clause-wound g c =
    wound-served c.deliver-served.result tt c.in_err-reply.field-0.0 c.from_residual.result (sym c.served_in.ensures ∙ c.in_err-reply.was) c.from_residual.ensures.1 c.deliver-served.ensures.wound

pub returns-in_err-reply-clause-memory : goal.returns-in_err-reply-clause-memory
returns-in_err-reply-clause-memory g c =
    memory-served c.deliver-served.result tt c.in_err-reply.field-0.0 c.from_residual.result (sym c.served_in.ensures ∙ c.in_err-reply.was) c.from_residual.ensures.1

pub send_on-requires-clause-follows : goal.send_on-requires-clause-follows
send_on-requires-clause-follows g c =
    let k = g.K.Keeping in
    let there = c.in-Some.ensures.lookup in
    let port : c.in-Some-letter.letter.port ≡ c.in-Some.cell.now.port = c.in-Some-letter.ensures.0 ∙ (sym (c.from.ensures ∙ c.port.ensures) ∙ at_its_port c.args.router.now.net.now c.args.cells.now c.from.result c.in-Some.cell.now c.requires.cells there.0 there.1) in
    let taken : c.served_in.result ≡ Ok (Some (c.in-Some-2.reply, c.in-Some-2.front)) = search rules in
    follows-served k.kept k.net k.log c.deliver-served.result c.args.seat.now tt c.in-Some-2.reply c.in-Some-2.front c.in-Some.cell.now.port c.port-in-Some-2.result c.in-Some-letter.letter.message c.message.result.now
    (served_there c.deliver-served.result (c.in-Some-2.reply, c.in-Some-2.front) c.served_in.result c.served_in.ensures taken) c.deliver-served.ensures.follows (c.port-in-Some-2.ensures ∙ port) c.message.ensures

pub returns-clause-caller : goal.returns-clause-caller
returns-clause-caller g c =
    caller-served c.deliver-served.result c.args.seat.now c.deliver-served.new.seat _ _ c.deliver-served.ensures.receipt c.deliver-served.ensures.same

pub returns-clause-messages : goal.returns-clause-messages
returns-clause-messages g c =
    messages-served c.deliver-served.result c.args.seat.now c.deliver-served.new.seat _ _ c.deliver-served.ensures.receipt c.deliver-served.ensures.same
