use Rattle.std.proofs.Common.{◌≡◌, sym, ap, subst, ◌∙◌}
use Rattle.abt_cell.specs.Message.{Reply}
use Rattle.abt_node.specs.declared.reply.Back.{Back}
use Rattle.abt_node.specs.declared.reply.Back.TheVariants.{Pass, Drop}
use Rattle.abt_node.specs.declared.reply.DropCause.TheVariants.{UnknownVc}
use Rattle.abt_node.specs.Reservation.{answer_of}
use Rattle.abt_c.specs.Records.{reply_in}
use Rattle.abt_c.specs.Ports.{reservation_in, back_number}
use Rattle.abt_c.specs.Tables.{IsRowOf, IsUnknown, row_of}
use Rattle.abt_c.proofs.table_message.abt_raw_table_answer.Goals as goal

pub returns-in-Pass-clause-value : goal.returns-in-Pass-clause-value
returns-in-Pass-clause-value c is says i has =
    let reply : c.in-Ok.answer ≡ reply_in c.args.rm.now = c.in-Ok.ensures.value in
    let taken = c.in-Some.ensures.value is i (subst (λ (a : Reply). IsRowOf c.args.table.now a.terms.vc i) (sym reply) has) in
    let back : ◌≡◌ {A = Back} Pass (answer_of (reservation_in (row_of c.args.table.now.rows i)) c.in-Ok.answer).0 = cc (taken.0, c.in-Pass.is) in
    subst
    (λ (a : Reply). (16 ≡ back_number (answer_of (reservation_in (row_of c.args.table.now.rows i)) a).0)
    × (reservation_in (row_of c.answer-2.new.self.rows i) ≡ (answer_of (reservation_in (row_of c.args.table.now.rows i)) a).1))
    reply (ap back_number back, taken.1)

pub returns-in-Drop-clause-unknown_vc : goal.returns-in-Drop-clause-unknown_vc
returns-in-Drop-clause-unknown_vc c is says =
    let reply : c.in-Ok.answer ≡ reply_in c.args.rm.now = c.in-Ok.ensures.value in
    let unknown = c.in-Some.ensures.unknown is in (
      (λ number.
          let cause : c.in-Drop.cause ≡ UnknownVc = c.of_drop.ensures.unknown_vc.0 number in
          subst (λ (a : Reply). IsUnknown c.args.table.now a.terms.vc) reply (unknown.0 (cc (cause, c.in-Drop.is)))),
      (λ nowhere.
          let back = unknown.1 (subst (λ (a : Reply). IsUnknown c.args.table.now a.terms.vc) (sym reply) nowhere) in
          c.of_drop.ensures.unknown_vc.1 (cc (back, c.in-Drop.is))),
    )

pub returns-in-Drop-clause-value : goal.returns-in-Drop-clause-value
returns-in-Drop-clause-value c is says i has =
    let reply : c.in-Ok.answer ≡ reply_in c.args.rm.now = c.in-Ok.ensures.value in
    let taken = c.in-Some.ensures.value is i (subst (λ (a : Reply). IsRowOf c.args.table.now a.terms.vc i) (sym reply) has) in
    let back : ◌≡◌ {A = Back} (Drop c.in-Drop.cause) (answer_of (reservation_in (row_of c.args.table.now.rows i)) c.in-Ok.answer).0 = cc (taken.0, c.in-Drop.is) in
    subst
    (λ (a : Reply). (c.of_drop.result ≡ back_number (answer_of (reservation_in (row_of c.args.table.now.rows i)) a).0)
    × (reservation_in (row_of c.answer-2.new.self.rows i) ≡ (answer_of (reservation_in (row_of c.args.table.now.rows i)) a).1))
    reply (c.of_drop.ensures.value ∙ ap back_number back, taken.1)
