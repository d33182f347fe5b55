use Rattle.std.proofs.Common.{◌≢◌, subst}
use Rattle.abt_lifetime.specs.declared.call.SourceCall.TheVariants.{Ask}
use Rattle.abt_lifetime.specs.Lifetime.{StoredView}
use Rattle.abt_c.specs.Lifetimes.{stored_in, IsCarriedOutInC}
use Rattle.abt_c.specs.Sources.{down_phase}
use Rattle.abt_c.proofs.Lives.{carried_up}
use Rattle.abt_c.proofs.lifetime.ProgramSource.ask.Goals as goal

pub invariant_of-self : goal.invariant_of-self
invariant_of-self g c =
    let s = c.self.inside.state in
    let was = c.self.inside.was_started in
    let held = g.K.SeqStore.content c.self.inside.store in
    let inv = c.self.invariant in
    let step = c.ask_through in
    let t = step.new.state in
    let left = g.K.SeqStore.content step.new.store in
    let up : s.phase ≢ down_phase = c.if-self-eq-DOWN_PHASE.false in
    let value = step.ensures.value in
    let ready = step.ensures.ready in
    let done = carried_up s t was held left (Ask c.args.rate) value.0 value.1 up ready.1 inv.2 value.3 in
    (ready.0, ready.2, done.0)

pub returns : goal.returns
returns g c =
    let s = c.self.inside.state in
    let was = c.self.inside.was_started in
    let held = g.K.SeqStore.content c.self.inside.store in
    let inv = c.self.invariant in
    let step = c.ask_through in
    let t = step.new.state in
    let left = g.K.SeqStore.content step.new.store in
    let up : s.phase ≢ down_phase = c.if-self-eq-DOWN_PHASE.false in
    let value = step.ensures.value in
    let ready = step.ensures.ready in
    let done = carried_up s t was held left (Ask c.args.rate) value.0 value.1 up ready.1 inv.2 value.3 in
    subst (λ (v : StoredView). IsCarriedOutInC v (Ask c.args.rate) step.result (stored_in t was left)) c.self.view_is (record { request = value.1; sent = value.2; done = done.1 })
