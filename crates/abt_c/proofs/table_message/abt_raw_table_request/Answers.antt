use Rattle.std.proofs.Common.{◌≡◌, sym, ap, subst, ◌∙◌}
use Rattle.abt_cell.specs.Message.{Terms}
use Rattle.abt_node.specs.declared.reply.Onward.{Onward}
use Rattle.abt_node.specs.declared.reply.Onward.TheVariants.{Refuse, Drop}
use Rattle.abt_c.specs.Records.{terms_in}
use Rattle.abt_c.specs.Ports.{reservation_in, decision_at, onward_number}
use Rattle.abt_c.specs.Tables.{IsRowOf, row_of}
use Rattle.abt_c.proofs.table_message.abt_raw_table_request.Goals as goal

pub returns-in-Refuse-clause-value : goal.returns-in-Refuse-clause-value
returns-in-Refuse-clause-value c is asks i has =
    let terms : c.in-Ok.request ≡ terms_in c.args.rm.now = c.in-Ok.ensures.value in
    let decided = c.in-Some.ensures.value is i (subst (λ (q : Terms). IsRowOf c.args.table.now q.vc i) (sym terms) has) in
    let onward : ◌≡◌ {A = Onward} (Refuse c.in-Refuse.no) (decision_at c.args.table.now.port (row_of c.args.table.now.rows i) c.in-Ok.request).0 = cc (decided.0, c.in-Refuse.is) in
    subst
    (λ (q : Terms). (17 ≡ onward_number (decision_at c.args.table.now.port (row_of c.args.table.now.rows i) q).0)
    × (reservation_in (row_of c.request.new.self.rows i) ≡ (decision_at c.args.table.now.port (row_of c.args.table.now.rows i) q).1))
    terms (ap onward_number onward, decided.1)

pub returns-in-Drop-clause-value : goal.returns-in-Drop-clause-value
returns-in-Drop-clause-value c is asks i has =
    let terms : c.in-Ok.request ≡ terms_in c.args.rm.now = c.in-Ok.ensures.value in
    let decided = c.in-Some.ensures.value is i (subst (λ (q : Terms). IsRowOf c.args.table.now q.vc i) (sym terms) has) in
    let onward : ◌≡◌ {A = Onward} (Drop c.in-Drop.cause) (decision_at c.args.table.now.port (row_of c.args.table.now.rows i) c.in-Ok.request).0 = cc (decided.0, c.in-Drop.is) in
    subst
    (λ (q : Terms). (c.of_drop.result ≡ onward_number (decision_at c.args.table.now.port (row_of c.args.table.now.rows i) q).0)
    × (reservation_in (row_of c.request.new.self.rows i) ≡ (decision_at c.args.table.now.port (row_of c.args.table.now.rows i) q).1))
    terms (c.of_drop.ensures.value ∙ ap onward_number onward, decided.1)
