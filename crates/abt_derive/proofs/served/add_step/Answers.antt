-- What the step serves is put behind what its connection was served, if the port is the first one there.
use Rattle.std.proofs.Common.{◌∙◌, Some, get_or, arith, refl, sym, ap}
use Rattle.abt_net.specs.Topology.{channel_at}
use Rattle.abt_derive.proofs.Serving.{conn_read, serves_elsewhere, serves_one}
use Rattle.abt_derive.proofs.served.add_step.Goals as goal

pub returns-then-first_of-port : goal.returns-then-first_of-port
returns-then-first_of-port c =
    serves_elsewhere c.args.net.now c.args.port c.args.step.now c.args.served.now c.in-Some.found.0 c.in-Some.found.1 c.from-number.result c.index-conns-number.result
    (sym c.served_in.ensures ∙ c.in-Some.is)
    (λ k has. ap Some c.from-number.ensures ∙ sym c.in-Some-find.is ∙ c.find.ensures.only k has)
    (conn_read c.args.net.now c.conns.result.now c.from-number.result c.index-conns-number.result c.conns.ensures.value
    (omega (arith, c.from-number.ensures, c.in-Some-find.ensures.within)) c.index-conns-number.is)
    (λ same. c.if-first_of-port.true (c.first_of.ensures ∙ same))

pub returns : goal.returns
returns c =
    serves_one c.args.net.now c.args.port c.args.step.now c.args.served.now c.in-Some.found.0 c.in-Some.found.1 c.from-number.result c.index-conns-number.result
    (get_or c.args.served.now c.from-number.result c.index-served-number.result) c.index-served-number.result c.push.new.self (sym c.served_in.ensures ∙ c.in-Some.is)
    (λ k has. ap Some c.from-number.ensures ∙ sym c.in-Some-find.is ∙ c.find.ensures.only k has)
    (ap (channel_at c.args.net.now.conns) c.from-number.ensures ∙ c.in-Some-find.ensures.value)
    (conn_read c.args.net.now c.conns.result.now c.from-number.result c.index-conns-number.result c.conns.ensures.value
    (omega (arith, c.from-number.ensures, c.in-Some-find.ensures.within)) c.index-conns-number.is)
    (sym c.first_of.ensures ∙ c.if-first_of-port.false)
    (omega (arith, c.from-number.ensures, c.in-Some-find.ensures.within, c.requires)) refl c.in_ok-push.ensures.items
