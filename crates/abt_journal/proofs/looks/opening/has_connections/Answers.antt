use Rattle.std.proofs.Common.{rules, ◌≡◌, ◌≤◌, Some, length, get_or, sym, ap, ◌∙◌, arith}
use Rattle.std.proofs.lemmas.Bool.Decides.{nat_tests}
use Rattle.abt_node.specs.Table.{opening, connection_at}
use Rattle.abt_journal.proofs.Through.{goes_through, lacks, all_counted, tau_tells, tells_tau, told_tau, not_told_tau}
use Rattle.abt_journal.proofs.looks.opening.has_connections.Goals as goal

pub returns-then-ne : goal.returns-then-ne
returns-then-ne c =
    let items = c.conns-conn-items.ensures in
    let t = c.args.state.now.opening in
    let lacking : ¬ (connection_at c.args.state.now.opening c.conn-item.result.vc ≡ Some (opening c.in-Some.tau)) =
    λ known. not_told_tau c.tau.result c.in-Some.tau (sym c.ne.ensures ∙ c.if-ne.true) (c.tau.ensures.value ∙ tells_tau t c.conn-item.result.vc c.in-Some.tau known) in (
      search rules,
      λ same. absurd (lacks t c.args.port c.args.net.now c.loop-conn.conn-index c.loop-conn.through c.conn-item.result c.in-Some.tau items.rules.own_channels
          (omega (arith, c.loop-conn-test.true, ap length items.value)) (c.conn-item.is ∙ ap (λ conns. get_or conns c.loop-conn.conn-index c.conn-item.result) items.value)
          (sym c.in-Some.is ∙ c.policer_at.ensures) lacking c.loop-conn.invariant same),
    )

pub loop-conn-preserved : goal.loop-conn-preserved
loop-conn-preserved c =
    let items = c.conns-conn-items.ensures in
    let t = c.args.state.now.opening in
    let is : c.tau.result ≡ Some c.in-Some.tau = told_tau c.tau.result c.in-Some.tau (sym c.ne.ensures ∙ c.if-ne.false) in
    let known : connection_at c.args.state.now.opening c.conn-item.result.vc ≡ Some (opening c.in-Some.tau) =
    tau_tells t c.conn-item.result.vc c.in-Some.tau c.tau.ensures.opening (sym c.tau.ensures.value ∙ is) in
    goes_through t c.args.port c.args.net.now.conns c.loop-conn.conn-index c.loop-conn.through c.conn-item.result c.in-Some.tau
    (omega (arith, c.loop-conn-test.true, ap length items.value)) (c.conn-item.is ∙ ap (λ conns. get_or conns c.loop-conn.conn-index c.conn-item.result) items.value)
    (sym c.in-Some.is ∙ c.policer_at.ensures) known c.loop-conn.invariant

pub returns : goal.returns
returns c =
    let items = c.conns-conn-items.ensures in
    let end : length c.args.net.now.conns ≤ c.loop-conn.conn-index = omega (arith, c.loop-conn-test.false, ap length items.value) in
    let both = all_counted c.args.state.now.opening c.args.port c.args.net.now c.loop-conn.conn-index c.loop-conn.through items.rules.own_channels end c.loop-conn.invariant in (
      λ count. both.0 (let is : c.loop-conn.through ≡ c.count.result = grind (arith, nat_tests) in is ∙ c.count.ensures),
      λ same. let is : c.loop-conn.through ≡ c.count.result = both.1 same ∙ sym c.count.ensures in grind (arith, nat_tests),
    )
