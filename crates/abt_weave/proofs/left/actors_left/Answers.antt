use Rattle.std.proofs.Common.{◌≡◌, ◌∙◌, ap, reverse, arith}
use Rattle.abt_weave.specs.Actors.{actor_count}
use Rattle.abt_weave.specs.Progress.{journaled}
use Rattle.abt_weave.specs.Faults.{left_below}
use Rattle.abt_weave.proofs.Lefts.{left_of, lefts_all}
use Rattle.abt_weave.proofs.Numbers.{are_journals}
use Rattle.abt_weave.proofs.left.actors_left.Goals as goal

pub returns : goal.returns
returns c =
    let net = c.args.given.now.net.now in
    let ports = c.args.given.now.ports.now in
    let sources = c.args.given.now.sources.now in
    let js = journaled ports sources in
    let earlier = reverse c.args.progress.now.events.items in
    let last : c.loop-number.number ≡ actor_count net = omega (arith, c.loop-number.invariant.1) in
    c.loop-number.invariant.0 ∙ ap (λ n. left_below (left_of net js earlier) n) last ∙ lefts_all net js earlier (are_journals net ports sources c.requires.conns c.requires.ports)
