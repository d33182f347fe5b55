use Rattle.std.proofs.Common.{ℕ, ◌<◌, List, [], length, subst}
use Rattle.abt_model.specs.PortTable.{port_table}
use Rattle.abt_world.proofs.Pushing.{pushed_next}
use Rattle.abt_world.proofs.fresh.opening_ports.Goals as goal

pub loop-id-preserved : goal.loop-id-preserved
loop-id-preserved c =
    let net = c.args.net.now in
    let low : c.loop-id.id < length net.capacities = subst (λ (l : List ℕ). c.loop-id.id < length l) c.capacities-id-end.ensures.value c.loop-id-test.true in
    pushed_next c.loop-id.ports.items c.push.new.self.items net.capacities (λ p (_ : ℕ). port_table net [] p) c.loop-id.id 0
    c.in_ok-opening_port.field-0 c.loop-id.invariant low c.in_ok-opening_port.ensures c.in_ok-push.ensures.items
