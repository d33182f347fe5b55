-- One port more.
use Rattle.std.proofs.Common.{◌≡◌, ◌+◌, ◌∙◌, length, map, take, ap, subst, sym}
use Rattle.std.specs.Prelude.{Vec}
use Rattle.std.specs.declared.alloc.Global.{Global}
use Rattle.abt_journal.specs.declared.entry.Entry.{Entry}
use Rattle.abt_derive.specs.Serves.{IsServedOfAll}
use Rattle.abt_derive.proofs.Serving.{AreServedSoFar, all_ports, next_port_on, whole_slice}
use Rattle.abt_derive.proofs.served.all_served.Goals as goal

pub loop-port-preserved : goal.loop-port-preserved
loop-port-preserved c =
    let lists = map (λ (steps : Vec Entry Global). steps.items) c.args.ports.now in
    let sized = c.add_steps.auto.served ∙ ap length c.as_mut_slice.ensures.value in
    let whole = whole_slice c.add_steps.new.served c.loop-port.served.items c.loop-port.served.len sized c.loop-port.served.ok.0 in
    subst (λ served. AreServedSoFar c.args.net.now (take (c.loop-port.port + 1) lists) served × (length served ≡ length c.args.net.now.conns)) (sym whole) (
      next_port_on c.args.net.now c.args.ports.now c.loop-port.port c.index-ports-port.result c.as_slice.result.now c.loop-port.served.items
          c.add_steps.new.served c.loop-port-test.true c.index-ports-port.is c.as_slice.ensures.value c.loop-port.invariant.0
          (subst (λ old. IsServedOfAll c.args.net.now c.loop-port.port c.as_slice.result.now old c.add_steps.new.served) c.as_mut_slice.ensures.value
          c.in_ok-add_steps.ensures),
      sized ∙ c.loop-port.invariant.1,
    )

pub returns : goal.returns
returns c = all_ports c.args.net.now c.args.ports.now c.loop-port.port c.loop-port.served.items c.loop-port-test.false c.loop-port.invariant.0
