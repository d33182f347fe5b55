use Rattle.std.proofs.Common.{◌≡◌, ◌≤◌, ◌+◌, ◌-◌, ◌∙◌, true, length, reverse, refl, ap, sym, subst, arith, Some}
use Rattle.std.specs.Prelude.{slice_index, slice_get, min}
use Rattle.std.proofs.lemmas.Bool.{eq-eqb}
use Rattle.std.proofs.lemmas.Option.{slice_get_read}
use Rattle.abt_net.specs.declared.conn.Conn.{Conn}
use Rattle.abt_net.specs.Topology.{conn_at}
use Rattle.abt_weave.specs.Progress.{journaled}
use Rattle.abt_weave.proofs.Touching.{place_more, path_begun, path_whole}
use Rattle.abt_weave.proofs.waking.wake_path.Goals as goal

pub loop-place-preserved : goal.loop-place-preserved
loop-place-preserved c =
    let net = c.args.given.now.net.now in
    let js = journaled c.args.given.now.ports.now c.args.given.now.sources.now in
    let is = rw (c.conns.ensures.value, c.from.ensures) at c.index-conns-from.is in
    let known : conn_at net c.args.conn ≡ Some c.index-conns-from.result = slice_get_read net.conns (length net.conns) c.args.conn c.index-conns-from.result refl c.requires.conn is in
    let here = ap (λ l. slice_index l c.loop-place.place) (sym c.as_slice-ports.ensures) in (
      c.in_ok-wake_port.ensures.queue,
      place_more net js (reverse c.args.progress.now.events.items) c.args.conn c.args.hop c.loop-place.place _ c.index-conns-from.result _ c.args.queue.now c.loop-place.queue c.wake_port.new.queue known here
          (λ e. eq-eqb _ _ (e ∙ sym c.from-visited.ensures)) c.loop-place.invariant.1 c.in_ok-wake_port.ensures.wakes,
    )

pub returns-clause-wakes : goal.returns-clause-wakes
returns-clause-wakes c =
    let net = c.args.given.now.net.now in
    let js = journaled c.args.given.now.ports.now c.args.given.now.sources.now in
    let is = rw (c.conns.ensures.value, c.from.ensures) at c.index-conns-from.is in
    let known : conn_at net c.args.conn ≡ Some c.index-conns-from.result = slice_get_read net.conns (length net.conns) c.args.conn c.index-conns-from.result refl c.requires.conn is in
    let past : c.min-past.result ≡ min (length c.index-conns-from.result.path) (c.args.hop + 1) =
    c.min-past.ensures ∙ ap (λ l. min (length l) (c.from-visited.result + 1)) c.as_slice-ports.ensures ∙ ap (λ n. min (length c.index-conns-from.result.path) (n + 1)) c.from-visited.ensures in
    let high : min (length c.index-conns-from.result.path) (c.args.hop + 1) ≤ c.loop-place.place = subst (λ n. n ≤ c.loop-place.place) past c.loop-place-test.false in
    path_whole net js (reverse c.args.progress.now.events.items) c.args.conn c.args.hop c.loop-place.place c.index-conns-from.result c.args.queue.now c.loop-place.queue known high c.loop-place.invariant.1
