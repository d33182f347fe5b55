use Rattle.std.proofs.Common.{◌≡◌, ◌<◌, ◌∙◌, ap, length, sym, subst}
use Rattle.abt_net.specs.Topology.{Topology}
use Rattle.abt_weave.proofs.Rates.{first_of, second_of, floor_asked, ask_asked}
use Rattle.abt_weave.proofs.asked.rates_asked.Goals as goal

pub returns-in-Some-clause-floor : goal.returns-in-Some-clause-floor
returns-in-Some-clause-floor c net events stands =
    let low : c.args.conn < length net.conns = subst (λ (n : Topology). c.args.conn < length n.conns) stands.stands.net_is c.requires in
    ap first_of (c.in-Some.ensures net events stands) ∙ floor_asked net events c.args.conn c.args.seq low

pub returns-in-Some-clause-ask : goal.returns-in-Some-clause-ask
returns-in-Some-clause-ask c net events stands =
    let low : c.args.conn < length net.conns = subst (λ (n : Topology). c.args.conn < length n.conns) stands.stands.net_is c.requires in
    ap second_of (c.in-Some.ensures net events stands) ∙ ask_asked net events c.args.conn c.args.seq low

pub returns-in-None-clause-floor : goal.returns-in-None-clause-floor
returns-in-None-clause-floor c net events stands =
    let low : c.args.conn < length net.conns = subst (λ (n : Topology). c.args.conn < length n.conns) stands.stands.net_is c.requires in
    ap first_of (c.in-None.ensures net events stands) ∙ floor_asked net events c.args.conn c.args.seq low

pub returns-in-None-clause-ask : goal.returns-in-None-clause-ask
returns-in-None-clause-ask c net events stands =
    let low : c.args.conn < length net.conns = subst (λ (n : Topology). c.args.conn < length n.conns) stands.stands.net_is c.requires in
    ap second_of (c.in-None.ensures net events stands) ∙ ask_asked net events c.args.conn c.args.seq low
