use Rattle.std.proofs.Common.{rules, false, is_some, ◌≡◌, Some, length, refl, sym, ◌∙◌, arith}
use Rattle.std.specs.Prelude.{slice_get}
use Rattle.std.proofs.lemmas.Option.{slice_get_read, slice_get_within}
use Rattle.abt_journal.specs.Gathered.{journals_of}
use Rattle.abt_journal.specs.Missing.{AreInOrder}
use Rattle.abt_journal.proofs.Walk.{if_none, all_more}
use Rattle.abt_journal.proofs.looks.receipts.first_missing.Goals as goal

pub loop-seat-preserved : goal.loop-seat-preserved
loop-seat-preserved c =
    let js = journals_of c.args.states.now in
    let none : is_some c.first_missing_in-missing.result ≡ false = sym c.is_some.ensures ∙ c.if-is_some.false in
    let here : AreInOrder (journals_of c.args.states.now) c.seat-item.result = if_none c.first_missing_in-missing.result none c.first_missing_in-missing.ensures.none in
    let at : slice_get c.args.seats.now c.loop-seat.seat-index ≡ Some c.seat-item.result =
    slice_get_read c.args.seats.now (length c.args.seats.now) c.loop-seat.seat-index c.seat-item.result refl c.loop-seat-test.true c.seat-item.is in
    (search rules, all_more (AreInOrder js) c.args.seats.now c.loop-seat.seat-index c.seat-item.result at here c.loop-seat.invariant.1)

pub returns-clause-none : goal.returns-clause-none
returns-clause-none c = λ k seat at. c.loop-seat.invariant.1 k seat (omega (arith, slice_get_within c.args.seats.now k seat at, c.loop-seat-test.false)) at
