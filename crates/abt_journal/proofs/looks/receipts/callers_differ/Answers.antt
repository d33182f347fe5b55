use Rattle.std.proofs.Common.{rules, true, false, ◌≡◌, ℕ, ◌+◌, ◌<◌, get_or, set, length, sym, subst, ap, ◌∙◌, arith}
use Rattle.std.proofs.lemmas.Grind.{common_steps}
use Rattle.abt_journal.proofs.Marks.{AreMarked, marks_begin, marks_stop, marks_go}
use Rattle.abt_journal.proofs.looks.receipts.callers_differ.Goals as goal

pub loop-seat-init : goal.loop-seat-init
loop-seat-init c =
    let none : (p : ℕ) → p < length c.fill.new.self → get_or c.fill.new.self p false ≡ false = λ p below. grind (arith, common_steps) in
    marks_begin c.args.seats.now c.fill.new.self (c.fill.ensures.len ∙ c.requires) none

pub returns-then-taken-caller : goal.returns-then-taken-caller
returns-then-taken-caller c =
    let caller : c.from-caller.result ≡ c.seat-item.result.caller = c.from-caller.ensures ∙ c.caller.ensures in
    let stops = marks_stop c.args.seats.now c.loop-seat.seat-index c.loop-seat.taken c.seat-item.result c.loop-seat-test.true c.seat-item.is c.loop-seat.invariant
    (sym (ap (λ q. get_or c.loop-seat.taken q false) caller) ∙ c.if-taken-caller.true) in
    (search rules, λ distinct. absurd (stops distinct))

pub loop-seat-preserved : goal.loop-seat-preserved
loop-seat-preserved c =
    let caller : c.from-caller.result ≡ c.seat-item.result.caller = c.from-caller.ensures ∙ c.caller.ensures in
    subst (λ q. AreMarked c.args.seats.now (c.loop-seat.seat-index + 1) (set c.loop-seat.taken q true)) (sym caller)
    (marks_go c.args.seats.now c.loop-seat.seat-index c.loop-seat.taken c.seat-item.result c.loop-seat-test.true c.seat-item.is (omega arith) c.loop-seat.invariant
    (sym (ap (λ q. get_or c.loop-seat.taken q false) caller) ∙ c.if-taken-caller.false))

pub returns : goal.returns
returns c = (λ yes i j d order below. c.loop-seat.invariant.distinct i j d order (omega (arith, below, c.loop-seat-test.false)), λ distinct. search rules)
