-- One source more is completed.
use Rattle.std.proofs.Common.{rules, ◌≡◌, ◌∷◌, ◌++◌, [], List, vec_items, arith, subst, ◌∙◌}
use Rattle.std.proofs.lemmas.List.{take_all}
use Rattle.abt_journal_text.specs.Books.{lists_of}
use Rattle.abt_model.specs.declared.journal.SourceJournal.{SourceJournal}
use Rattle.abt_derive.specs.Derives.{AreCompletedFrom}
use Rattle.abt_derive.proofs.Growing.{one_on, lists_more}
use Rattle.abt_derive.proofs.completion.completed.Goals as goal

pub loop-number-preserved : goal.loop-number-preserved
loop-number-preserved c =
    let run = c.args.run.now in
    let longer : vec_items c.push.new.self ≡ vec_items c.loop-number.full.sources ++ c.in_ok-journal.journal ∷ [] = search rules in
    let further : vec_items c.push-in-loop-number.new.self ≡ vec_items c.loop-number.full.spots ++ c.in_ok-journal.spots ∷ [] = search rules in
    one_on run.net run.journals (lists_of run.port_spots) (lists_of run.source_spots) c.loop-number.number c.deref-journal-items.result.now _ _ _ _
    c.journal-item.result c.in_ok-journal.journal c.in_ok-journal.spots.items c.loop-number-test.true c.journal-item.is c.loop-number.invariant
    c.in_ok-journal.ensures longer (lists_more c.loop-number.full.spots c.push-in-loop-number.new.self c.in_ok-journal.spots further)

pub returns : goal.returns
returns c =
    let run = c.args.run.now in
    subst (λ (sources : List SourceJournal). AreCompletedFrom run.net run.journals (lists_of run.port_spots) (lists_of run.source_spots) 0 sources
    (vec_items c.loop-number.full.sources) (lists_of c.loop-number.full.spots))
    (take_all c.loop-number.number c.deref-journal-items.result.now (omega (arith, c.loop-number-test.false)) ∙ c.deref-journal-items.ensures.value)
    c.loop-number.invariant
