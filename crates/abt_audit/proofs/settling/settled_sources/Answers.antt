-- All journals are settled.
use Rattle.std.proofs.Common.{rules, arith, ◌≡◌, ◌∙◌, ◌∷◌, ◌++◌, List, [], ℕ, length, vec_items, sym, subst}
use Rattle.std.specs.Vec.Iter.{into_iter_items}
use Rattle.std.proofs.lemmas.Grind.{common_steps}
use Rattle.abt_model.specs.declared.journal.SourceJournal.{SourceJournal}
use Rattle.abt_audit.specs.Settling.{SettlesAt}
use Rattle.abt_audit.proofs.SettledRuns.{SettlesOn, no_journals, settles_more, settles_done}
use Rattle.abt_audit.proofs.settling.settled_sources.Goals as goal

pub loop-journal-preserved : goal.loop-journal-preserved
loop-journal-preserved c =
    let net = c.args.net.now in
    let writes = c.args.open_writes.now in
    let all = c.args.sources.items in
    let left = into_iter_items c.next.new.self in
    let settled = vec_items c.loop-journal.settled in
    let next : into_iter_items c.loop-journal.journal-iterator ≡ c.in-Some.journal ∷ left = search rules in
    let before = subst (λ (journals : List SourceJournal). SettlesOn net writes all journals settled) next c.loop-journal.invariant.1 in
    let number : c.len-number.result ≡ length settled = search rules in
    let at = subst (λ (n : ℕ). SettlesAt net writes n c.in-Some.journal c.in_ok-settled_at.field-0) number c.in_ok-settled_at.ensures in
    let more : vec_items c.push.new.self ≡ settled ++ c.in_ok-settled_at.field-0 ∷ [] = search rules in (
      grind (arith, common_steps),
      subst (SettlesOn net writes all left) (sym more) (settles_more net writes all left settled c.in-Some.journal c.in_ok-settled_at.field-0 before at),
    )

pub returns : goal.returns
returns c =
    let left = into_iter_items c.loop-journal.journal-iterator in
    let none = no_journals left (c.loop-journal.invariant.0 ∙ c.in-None.ensures.steps.0) in
    settles_done c.args.net.now c.args.open_writes.now c.args.sources.items left c.loop-journal.settled.items none c.loop-journal.invariant.1
