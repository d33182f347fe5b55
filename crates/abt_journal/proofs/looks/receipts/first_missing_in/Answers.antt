use Rattle.std.proofs.Common.{rules, ◌≡◌, ℕ, ◌<◌, slice_index, length, refl, sym, ap, ◌∙◌, arith}
use Rattle.std.proofs.lemmas.Grind.{common_steps}
use Rattle.std.proofs.lemmas.Option.{slice_get_within}
use Rattle.std.proofs.lemmas.List.{length-map}
use Rattle.abt_journal.specs.Gathered.{journals_of}
use Rattle.abt_journal.proofs.Walk.{IsTurn, Passes, walk_begins, walk_stops, walk_goes}
use Rattle.abt_journal.proofs.looks.receipts.first_missing_in.Goals as goal

pub loop-receipt-init : goal.loop-receipt-init
loop-receipt-init c =
    let long : length (journals_of c.args.states.now) ≡ length c.args.states.now = length-map c.args.states.now _ in
    let zeros : (p : ℕ) → p < length c.fill.new.self → slice_index c.fill.new.self p ≡ 0 = λ p below. grind (arith, common_steps) in
    walk_begins (journals_of c.args.states.now) c.args.seat.now c.fill.new.self (c.fill.ensures.len ∙ c.requires ∙ sym long) zeros

pub returns-then-not-sees-clause-some : goal.returns-then-not-sees-clause-some
returns-then-not-sees-clause-some c =
    let js = journals_of c.args.states.now in
    let i = c.loop-receipt.receipt-index in
    let r = c.receipt-item.result in
    let turn : IsTurn c.args.seat.now c.receipts-receipt-items.result.now i r c.caller-caller.result = record {
      caller_is = c.caller-caller.ensures;
      items_are = c.receipts-receipt-items.ensures.value;
      below = c.loop-receipt-test.true;
      item = c.receipt-item.is;
    } in
    let fails : ¬ Passes (journals_of c.args.states.now) c.caller-caller.result c.loop-receipt.seen r = λ passes. (let yes = c.sees.ensures.value.1 passes in absurd (search rules)) in
    (i, r, walk_stops js c.args.seat.now c.receipts-receipt-items.result.now i r c.caller-caller.result c.loop-receipt.seen c.loop-receipt.invariant turn fails, refl, refl)

pub loop-receipt-preserved : goal.loop-receipt-preserved
loop-receipt-preserved c =
    let js = journals_of c.args.states.now in
    let i = c.loop-receipt.receipt-index in
    let r = c.receipt-item.result in
    let turn : IsTurn c.args.seat.now c.receipts-receipt-items.result.now i r c.caller-caller.result = record {
      caller_is = c.caller-caller.ensures;
      items_are = c.receipts-receipt-items.ensures.value;
      below = c.loop-receipt-test.true;
      item = c.receipt-item.is;
    } in
    walk_goes js c.args.seat.now c.receipts-receipt-items.result.now i r c.caller-caller.result c.loop-receipt.seen c.sees.new.seen c.loop-receipt.invariant turn
    (c.sees.ensures.value.0 c.if-not-sees.false) (c.sees.ensures.seen c.if-not-sees.false)

pub returns-clause-none : goal.returns-clause-none
returns-clause-none c = λ i r at.
    c.loop-receipt.invariant.in_order i r
    (omega (arith, slice_get_within c.args.seat.now.receipts i r at, ap length c.receipts-receipt-items.ensures.value, c.loop-receipt-test.false)) at
