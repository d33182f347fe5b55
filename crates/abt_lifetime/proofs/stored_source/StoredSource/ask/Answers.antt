use Rattle.std.proofs.Common.{◌≡◌, true, subst}
use Rattle.abt_lifetime.specs.declared.any_source.AnySource.{AnySource}
use Rattle.abt_lifetime.specs.declared.call.SourceCall.TheVariants.{Ask}
use Rattle.abt_lifetime.specs.Lifetime.{StoredView, Called, asked}
use Rattle.abt_lifetime.specs.Numbers.{IsCarriedOut}
use Rattle.abt_lifetime.specs.Sources.{is_up_in, stored_in}
use Rattle.abt_lifetime.proofs.Carried.{ask_carried}
use Rattle.abt_lifetime.proofs.stored_source.StoredSource.ask.Goals as goal

pub invariant_of-self : goal.invariant_of-self
invariant_of-self g c =
    let content = g.K.SeqStore.content in
    let running = c.self.inside.running in
    let old = content c.self.inside.store in
    let new = content c.ask-running.new.store in
    let is_up : is_up_in running ≡ true = (let test = c.if-not-is_up.false in let means = c.is_up.ensures in cc) in
    let value = c.ask-running.ensures.value in
    let is = subst (λ (r : AnySource). (let it : Called = record { after = stored_in c.ask-running.result.0 true new; request = c.ask-running.result.1 } in it ≡ asked value.0 (stored_in r true old) c.args.rate)) c.taken_out.ensures value.1 in
    ((ask_carried running c.ask-running.result.0 c.self.inside.was_started old new c.ask-running.result.1 value.0 c.args.rate is_up c.self.invariant.0 is).0, c.ask-running.ensures.waits)

pub returns : goal.returns
returns g c =
    let content = g.K.SeqStore.content in
    let running = c.self.inside.running in
    let old = content c.self.inside.store in
    let new = content c.ask-running.new.store in
    let is_up : is_up_in running ≡ true = (let test = c.if-not-is_up.false in let means = c.is_up.ensures in cc) in
    let value = c.ask-running.ensures.value in
    let is = subst (λ (r : AnySource). (let it : Called = record { after = stored_in c.ask-running.result.0 true new; request = c.ask-running.result.1 } in it ≡ asked value.0 (stored_in r true old) c.args.rate)) c.taken_out.ensures value.1 in
    subst (λ (v : StoredView). IsCarriedOut v (Ask c.args.rate) c.ask-running.result.1 (stored_in c.ask-running.result.0 c.self.inside.was_started new)) c.self.view_is
    (ask_carried running c.ask-running.result.0 c.self.inside.was_started old new c.ask-running.result.1 value.0 c.args.rate is_up c.self.invariant.0 is).1
