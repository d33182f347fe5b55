use Rattle.std.proofs.Common.{rules, ◌≡◌, sym, subst, length}
use Rattle.abt_journal.specs.Opening.{IsOpening}
use Rattle.abt_links.proofs.Opened.{places-push}
use Rattle.abt_links.proofs.Tables.{IsOpening-port}
use Rattle.abt_links.proofs.opening.opening_cells.Goals as goal

pub new-requires : goal.new-requires
new-requires g c = subst IsOpening (sym c.in_ok-port.ensures) (IsOpening-port c.args.net.now c.loop-id.id)

pub loop-id-preserved : goal.loop-id-preserved
loop-id-preserved g c =
    let port : c.of.result.port ≡ length c.loop-id.cells.items = search rules in
    (search rules, places-push c.loop-id.cells.items c.push.new.self.items c.of.result c.in_ok-push.ensures.items c.loop-id.invariant.1 port, search rules)
