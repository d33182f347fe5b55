use Rattle.std.proofs.Common.{rules, subst}
use Rattle.abt_journal.specs.Gathered.{journals_of, CountsFit}
use Rattle.abt_journal.specs.Missing.{AllInOrder}
use Rattle.abt_journal.specs.Foreign.{AreOfNet}
use Rattle.abt_journal.proofs.Walk.{none_found}
use Rattle.abt_journal.proofs.Histories.{are_histories}
use Rattle.abt_journal.proofs.Pigeon.{gathered, are_receipts}
use Rattle.abt_journal.proofs.gathering.gather.Goals as goal

pub returns-clause-histories : goal.returns-clause-histories
returns-clause-histories c =
    let are : AreOfNet c.args.net.now c.args.states.items = search rules in
    rw c.entries_of.ensures.value (are_histories c.args.net.now c.args.states.items are c.entries_of.ensures.histories)

pub returns-clause-gathered : goal.returns-clause-gathered
returns-clause-gathered c =
    let fit : CountsFit (journals_of c.args.states.items) c.args.seats.items = search rules in
    let order : AllInOrder (journals_of c.args.states.items) c.args.seats.items =
    subst (AllInOrder (journals_of c.args.states.items)) c.deref-2.ensures.value
    (subst (λ states. AllInOrder (journals_of states) c.deref-2.result.now) c.deref.ensures.value
    (none_found c.first_fault.result c.in_default.is c.first_fault.ensures.order)) in
    rw c.entries_of.ensures.value (gathered (journals_of c.args.states.items) c.args.seats.items fit order)

pub returns-clause-receipts : goal.returns-clause-receipts
returns-clause-receipts c =
    let fit : CountsFit (journals_of c.args.states.items) c.args.seats.items = search rules in
    let order : AllInOrder (journals_of c.args.states.items) c.args.seats.items =
    subst (AllInOrder (journals_of c.args.states.items)) c.deref-2.ensures.value
    (subst (λ states. AllInOrder (journals_of states) c.deref-2.result.now) c.deref.ensures.value
    (none_found c.first_fault.result c.in_default.is c.first_fault.ensures.order)) in
    rw c.entries_of.ensures.value (are_receipts (journals_of c.args.states.items) c.args.seats.items fit order)
