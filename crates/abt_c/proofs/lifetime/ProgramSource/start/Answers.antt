use Rattle.std.proofs.Common.{None, subst}
use Rattle.abt_lifetime.specs.declared.call.SourceCall.TheVariants.{Start}
use Rattle.abt_lifetime.specs.Lifetime.{StoredView}
use Rattle.abt_lifetime.specs.Numbers.{IsCarriedOut}
use Rattle.abt_c.specs.Lifetimes.{stored_in}
use Rattle.abt_c.proofs.Lives.{carried_no_start, same_state}
use Rattle.abt_c.proofs.lifetime.ProgramSource.start.Goals as goal

pub invariant_of-self-else-abt_raw_source_start-eq-DONE : goal.invariant_of-self-else-abt_raw_source_start-eq-DONE
invariant_of-self-else-abt_raw_source_start-eq-DONE g c =
    let s = c.self.inside.state in
    let was = c.self.inside.was_started in
    let held = g.K.SeqStore.content c.self.inside.store in
    let inv = c.self.invariant in
    let step = c.abt_raw_source_start in
    let t = step.new.state in
    let left = g.K.SeqStore.content c.kept.new.self in
    let same = step.ensures.same c.if-abt_raw_source_start-eq-DONE.false in
    let state = same_state s t same (inv.0, inv.1) in
    let done = carried_no_start s t was held left c.args.now same c.kept.ensures.same inv.2 in
    (state.0, state.1, done.0)

pub returns-else-abt_raw_source_start-eq-DONE : goal.returns-else-abt_raw_source_start-eq-DONE
returns-else-abt_raw_source_start-eq-DONE g c =
    let s = c.self.inside.state in
    let was = c.self.inside.was_started in
    let held = g.K.SeqStore.content c.self.inside.store in
    let inv = c.self.invariant in
    let step = c.abt_raw_source_start in
    let t = step.new.state in
    let left = g.K.SeqStore.content c.kept.new.self in
    let same = step.ensures.same c.if-abt_raw_source_start-eq-DONE.false in
    let state = same_state s t same (inv.0, inv.1) in
    let done = carried_no_start s t was held left c.args.now same c.kept.ensures.same inv.2 in
    subst (λ (v : StoredView). IsCarriedOut v (Start c.args.now) None (stored_in t was left)) c.self.view_is done.1
