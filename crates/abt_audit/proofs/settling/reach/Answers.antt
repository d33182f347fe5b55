-- Entries fit one after the other.
use Rattle.std.proofs.Common.{◌∙◌, sym, subst, arith}
use Rattle.std.proofs.lemmas.Bool.{false≢true}
use Rattle.abt_journal_text.proofs.Sending.{next_of, none_left}
use Rattle.abt_audit.specs.Protocol.{facts_past}
use Rattle.abt_audit.proofs.Settled.{FitsOn, fits_more, reach_here, reach_whole}
use Rattle.abt_audit.proofs.settling.reach.Goals as goal

pub returns-then-not-is_same : goal.returns-then-not-is_same
returns-then-not-is_same c =
    let inv = c.loop-place.invariant in
    let next = next_of c.args.entries.now c.loop-place.place c.index-entries-place.result c.loop-place-test.true c.index-entries-place.is in
    let fits = subst (FitsOn c.args.vc c.args.entries.now c.loop-place.place inv.0) next inv.2 in
    let answer = (c.go_on-answer.ensures c.args.vc inv.0 inv.1).0 in
    reach_here c.args.vc c.args.entries.now c.loop-place.place inv.0 c.index-entries-place.result _ fits
    (λ same. (let is = c.is_same.ensures.1 (answer ∙ same ∙ sym c.told_in.ensures) in absurd (false≢true (sym c.if-not-is_same.true ∙ is))))

pub loop-place-preserved : goal.loop-place-preserved
loop-place-preserved c =
    let inv = c.loop-place.invariant in
    let next = next_of c.args.entries.now c.loop-place.place c.index-entries-place.result c.loop-place-test.true c.index-entries-place.is in
    let fits = subst (FitsOn c.args.vc c.args.entries.now c.loop-place.place inv.0) next inv.2 in
    let one = c.index-entries-place.result in
    let went = c.go_on-answer.ensures c.args.vc inv.0 inv.1 in
    let told = c.is_same.ensures.0 c.if-not-is_same.false in
    let fit = sym went.0 ∙ told ∙ c.told_in.ensures in
    (facts_past c.args.vc inv.0 one, went.1, fits_more c.args.vc c.args.entries.now c.loop-place.place inv.0 one _ fits fit)

pub returns : goal.returns
returns c =
    let inv = c.loop-place.invariant in
    let none = none_left c.args.entries.now c.loop-place.place (omega (arith, c.loop-place-test.false)) in
    reach_whole c.args.vc c.args.entries.now c.loop-place.place inv.0 (omega (arith, c.loop-place-test.false))
    (subst (FitsOn c.args.vc c.args.entries.now c.loop-place.place inv.0) none inv.2)
