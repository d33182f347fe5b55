use Rattle.std.proofs.Common.{◌≡◌, ◌<◌, refl, length, slice_get, Some, ap, subst, ◌∙◌, slice_index}
use Rattle.abt_net.specs.declared.conn.Conn.{Conn}
use Rattle.abt_net.specs.Topology.{IsConnWithin, conn_at}
use Rattle.abt_history.specs.Sites.{SiteView}
use Rattle.abt_links.specs.SourceWorkers.{worked, Obeys}
use Rattle.abt_links.proofs.Hearing.{stays_on}
use Rattle.abt_links.proofs.Running.{script_begins, script_goes_on, script_done, behind_given, line_at, line_kept, net_kept, one_line, in_tolerance_at, rules_of, first_cell}
use Rattle.abt_links.proofs.Wounds.{keeps_err}
use Rattle.abt_links.proofs.access.run_script.Goals as goal

pub loop-command-init : goal.loop-command-init
loop-command-init g c =
    let site = c.args.site in
    let mine : Conn = c.index-conns-place.result in
    let conn = c.args.conn in
    let low : conn < length c.args.net.now.conns = subst (λ n. n < length c.args.net.now.conns) c.requires.own c.requires.begun.low in
    let at : slice_get c.args.net.now.conns conn ≡ Some mine = line_at c.args.net.now.conns c.conns.result.now c.from-place.result conn mine c.conns.ensures.value c.from-place.ensures low c.index-conns-place.is in
    let its : conn_at c.args.net.now site.conn ≡ Some mine = ap (conn_at c.args.net.now) c.requires.own ∙ at in
    (script_begins c.args.net.now mine c.index-cells-from.result.port site c.new-worker.result c.requires.begun its c.new-worker.ensures.site c.new-worker.ensures.seat, record { conn = refl; vc = refl })

pub obey-requires-clause-given : goal.obey-requires-clause-given
obey-requires-clause-given g c =
    let site = c.args.site in
    let mine : Conn = c.index-conns-place.result in
    let conn = c.args.conn in
    let low : conn < length c.args.net.now.conns = subst (λ n. n < length c.args.net.now.conns) c.requires.own c.requires.begun.low in
    let at : slice_get c.args.net.now.conns conn ≡ Some mine = line_at c.args.net.now.conns c.conns.result.now c.from-place.result conn mine c.conns.ensures.value c.from-place.ensures low c.index-conns-place.is in
    let its : conn_at c.args.net.now site.conn ≡ Some mine = ap (conn_at c.args.net.now) c.requires.own ∙ at in
    let inv = c.loop-command.invariant in
    let worker = c.loop-command.worker in
    let own : worker.site.conn ≡ site.conn = inv.1.conn ∙ ap (λ (s : SiteView). s.conn) c.new-worker.ensures.site in
    let vc : worker.site.vc ≡ mine.vc = inv.1.vc ∙ (ap (λ (s : SiteView). s.vc) c.new-worker.ensures.site ∙ c.requires.begun.channel mine its) in
    behind_given mine worker.site.vc c.new-worker.result.site.conn c.index-cells-from.result.port _ (worked worker) inv.0 vc

pub obey-requires-clause-vc : goal.obey-requires-clause-vc
obey-requires-clause-vc g c =
    let site = c.args.site in
    let mine : Conn = c.index-conns-place.result in
    let conn = c.args.conn in
    let low : conn < length c.args.net.now.conns = subst (λ n. n < length c.args.net.now.conns) c.requires.own c.requires.begun.low in
    let at : slice_get c.args.net.now.conns conn ≡ Some mine = line_at c.args.net.now.conns c.conns.result.now c.from-place.result conn mine c.conns.ensures.value c.from-place.ensures low c.index-conns-place.is in
    let its : conn_at c.args.net.now site.conn ≡ Some mine = ap (conn_at c.args.net.now) c.requires.own ∙ at in
    let inv = c.loop-command.invariant in
    let worker = c.loop-command.worker in
    let own : worker.site.conn ≡ site.conn = inv.1.conn ∙ ap (λ (s : SiteView). s.conn) c.new-worker.ensures.site in
    let vc : worker.site.vc ≡ mine.vc = inv.1.vc ∙ (ap (λ (s : SiteView). s.vc) c.new-worker.ensures.site ∙ c.requires.begun.channel mine its) in
    vc

pub obey-requires-clause-delay : goal.obey-requires-clause-delay
obey-requires-clause-delay g c =
    let site = c.args.site in
    let mine : Conn = c.index-conns-place.result in
    let conn = c.args.conn in
    let low : conn < length c.args.net.now.conns = subst (λ n. n < length c.args.net.now.conns) c.requires.own c.requires.begun.low in
    let at : slice_get c.args.net.now.conns conn ≡ Some mine = line_at c.args.net.now.conns c.conns.result.now c.from-place.result conn mine c.conns.ensures.value c.from-place.ensures low c.index-conns-place.is in
    let its : conn_at c.args.net.now site.conn ≡ Some mine = ap (conn_at c.args.net.now) c.requires.own ∙ at in
    let rules : IsConnWithin (length c.args.net.now.capacities) mine = rules_of c.args.net.now conn mine c.conns.ensures.rules low at in
    rules.delay

pub obey-requires-clause-tau : goal.obey-requires-clause-tau
obey-requires-clause-tau g c =
    let site = c.args.site in
    let mine : Conn = c.index-conns-place.result in
    let conn = c.args.conn in
    let low : conn < length c.args.net.now.conns = subst (λ n. n < length c.args.net.now.conns) c.requires.own c.requires.begun.low in
    let at : slice_get c.args.net.now.conns conn ≡ Some mine = line_at c.args.net.now.conns c.conns.result.now c.from-place.result conn mine c.conns.ensures.value c.from-place.ensures low c.index-conns-place.is in
    let its : conn_at c.args.net.now site.conn ≡ Some mine = ap (conn_at c.args.net.now) c.requires.own ∙ at in
    let rules : IsConnWithin (length c.args.net.now.capacities) mine = rules_of c.args.net.now conn mine c.conns.ensures.rules low at in
    rules.tau

pub obey-requires-clause-jitter : goal.obey-requires-clause-jitter
obey-requires-clause-jitter g c =
    let site = c.args.site in
    let mine : Conn = c.index-conns-place.result in
    let conn = c.args.conn in
    let low : conn < length c.args.net.now.conns = subst (λ n. n < length c.args.net.now.conns) c.requires.own c.requires.begun.low in
    let at : slice_get c.args.net.now.conns conn ≡ Some mine = line_at c.args.net.now.conns c.conns.result.now c.from-place.result conn mine c.conns.ensures.value c.from-place.ensures low c.index-conns-place.is in
    let its : conn_at c.args.net.now site.conn ≡ Some mine = ap (conn_at c.args.net.now) c.requires.own ∙ at in
    in_tolerance_at mine.tau c.args.script.now c.as_slice-command-items.result.now c.loop-command.command-index c.command-item.result c.as_slice-command-items.ensures c.loop-command-test.true c.command-item.is (c.requires.jitters mine at)

pub obey-requires-clause-net : goal.obey-requires-clause-net
obey-requires-clause-net g c =
    let k = g.K.Keeping in
    net_kept k.kept k.net c.args.net.now _ c.requires.net c.new.ensures.net

pub obey-requires-clause-line : goal.obey-requires-clause-line
obey-requires-clause-line g c =
    let k = g.K.Keeping in
    let site = c.args.site in
    let mine : Conn = c.index-conns-place.result in
    let conn = c.args.conn in
    let low : conn < length c.args.net.now.conns = subst (λ n. n < length c.args.net.now.conns) c.requires.own c.requires.begun.low in
    let at : slice_get c.args.net.now.conns conn ≡ Some mine = line_at c.args.net.now.conns c.conns.result.now c.from-place.result conn mine c.conns.ensures.value c.from-place.ensures low c.index-conns-place.is in
    let its : conn_at c.args.net.now site.conn ≡ Some mine = ap (conn_at c.args.net.now) c.requires.own ∙ at in
    let rules : IsConnWithin (length c.args.net.now.capacities) mine = rules_of c.args.net.now conn mine c.conns.ensures.rules low at in
    let port : c.index-cells-from.result.port ≡ slice_index mine.path 0 = first_cell c.args.net.now c.args.cells.now mine c.as_slice.result.now c.from.result c.index-cells-from.result c.requires.cells rules c.as_slice.ensures c.from.ensures c.index-cells-from.is in
    let inv = c.loop-command.invariant in
    let worker = c.loop-command.worker in
    let own : worker.site.conn ≡ site.conn = inv.1.conn ∙ ap (λ (s : SiteView). s.conn) c.new-worker.ensures.site in
    let vc : worker.site.vc ≡ mine.vc = inv.1.vc ∙ (ap (λ (s : SiteView). s.vc) c.new-worker.ensures.site ∙ c.requires.begun.channel mine its) in
    line_kept k.kept k.net c.args.net.now worker.site.conn conn c.index-cells-from.result.port mine c.requires.net at (own ∙ c.requires.own) port

pub loop-command-preserved : goal.loop-command-preserved
loop-command-preserved g c =
    let inv = c.loop-command.invariant in
    let first = c.new-worker.result.site in
    let worker = c.loop-command.worker in
    let next = c.obey.new.self in (
      script_goes_on c.index-conns-place.result first.conn c.index-cells-from.result.port c.as_slice-command-items.result.now c.loop-command.command-index c.command-item.result (worked worker) (worked next)
          c.loop-command-test.true c.command-item.is inv.0 (subst (λ n. Obeys c.index-conns-place.result n c.index-cells-from.result.port c.command-item.result (worked worker) (worked next)) inv.1.conn c.in_ok-obey.ensures.ok),
      stays_on first worker.site next.site inv.1 c.in_ok-obey.ensures.home,
    )

pub returns-clause-runs : goal.returns-clause-runs
returns-clause-runs g c line is =
    let site = c.args.site in
    let mine : Conn = c.index-conns-place.result in
    let conn = c.args.conn in
    let low : conn < length c.args.net.now.conns = subst (λ n. n < length c.args.net.now.conns) c.requires.own c.requires.begun.low in
    let at : slice_get c.args.net.now.conns conn ≡ Some mine = line_at c.args.net.now.conns c.conns.result.now c.from-place.result conn mine c.conns.ensures.value c.from-place.ensures low c.index-conns-place.is in
    let its : conn_at c.args.net.now site.conn ≡ Some mine = ap (conn_at c.args.net.now) c.requires.own ∙ at in
    let inv = c.loop-command.invariant in
    let worker = c.loop-command.worker in
    let own : worker.site.conn ≡ site.conn = inv.1.conn ∙ ap (λ (s : SiteView). s.conn) c.new-worker.ensures.site in
    let vc : worker.site.vc ≡ mine.vc = inv.1.vc ∙ (ap (λ (s : SiteView). s.vc) c.new-worker.ensures.site ∙ c.requires.begun.channel mine its) in
    let same : mine ≡ line = one_line (slice_get c.args.net.now.conns conn) mine line at is in
    let first = c.new-worker.result.site in
    let number : first.conn ≡ conn = ap (λ (s : SiteView). s.conn) c.new-worker.ensures.site ∙ c.requires.own in
    let done = script_done mine first.conn c.index-cells-from.result.port c.args.script.now c.as_slice-command-items.result.now c.loop-command.command-index (worked worker) c.as_slice-command-items.ensures c.loop-command-test.false inv.0 in
    rw (← same, ← number) done.0

pub returns-clause-first : goal.returns-clause-first
returns-clause-first g c line is =
    let site = c.args.site in
    let mine : Conn = c.index-conns-place.result in
    let conn = c.args.conn in
    let low : conn < length c.args.net.now.conns = subst (λ n. n < length c.args.net.now.conns) c.requires.own c.requires.begun.low in
    let at : slice_get c.args.net.now.conns conn ≡ Some mine = line_at c.args.net.now.conns c.conns.result.now c.from-place.result conn mine c.conns.ensures.value c.from-place.ensures low c.index-conns-place.is in
    let its : conn_at c.args.net.now site.conn ≡ Some mine = ap (conn_at c.args.net.now) c.requires.own ∙ at in
    let rules : IsConnWithin (length c.args.net.now.capacities) mine = rules_of c.args.net.now conn mine c.conns.ensures.rules low at in
    let port : c.index-cells-from.result.port ≡ slice_index mine.path 0 = first_cell c.args.net.now c.args.cells.now mine c.as_slice.result.now c.from.result c.index-cells-from.result c.requires.cells rules c.as_slice.ensures c.from.ensures c.index-cells-from.is in
    let inv = c.loop-command.invariant in
    let worker = c.loop-command.worker in
    let own : worker.site.conn ≡ site.conn = inv.1.conn ∙ ap (λ (s : SiteView). s.conn) c.new-worker.ensures.site in
    let vc : worker.site.vc ≡ mine.vc = inv.1.vc ∙ (ap (λ (s : SiteView). s.vc) c.new-worker.ensures.site ∙ c.requires.begun.channel mine its) in
    let same : mine ≡ line = one_line (slice_get c.args.net.now.conns conn) mine line at is in
    let done = script_done mine c.new-worker.result.site.conn c.index-cells-from.result.port c.args.script.now c.as_slice-command-items.result.now c.loop-command.command-index (worked worker) c.as_slice-command-items.ensures c.loop-command-test.false inv.0 in
    λ k d low. done.1 k d low ∙ (port ∙ ap (λ (l : Conn). slice_index l.path 0) same)

pub returns-clause-keeps : goal.returns-clause-keeps
returns-clause-keeps g c =
    let worker = c.loop-command.worker in
    let inv = c.loop-command.invariant in
    let own : worker.site.conn ≡ c.args.conn = inv.1.conn ∙ (ap (λ (s : SiteView). s.conn) c.new-worker.ensures.site ∙ c.requires.own) in
    let caller : worker.seat.caller ≡ c.args.conn = inv.0.2.caller ∙ (ap (λ (s : SiteView). s.conn) c.new-worker.ensures.site ∙ c.requires.own) in
    (record { caller = caller; own = own; runs = returns-clause-runs g c; first = returns-clause-first g c }, λ seen found is. cc)

pub returns-in_err-obey-clause-keeps : goal.returns-in_err-obey-clause-keeps
returns-in_err-obey-clause-keeps g c = keeps_err _ c.from_residual.result c.obey.result c.in_err-obey.field-0.0 c.in_err-obey.was c.from_residual.ensures.1 c.obey.ensures.wound
