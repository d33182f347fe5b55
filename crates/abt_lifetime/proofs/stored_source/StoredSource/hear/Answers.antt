use Rattle.std.proofs.Common.{◌≡◌, refl, None, ap, sym, subst, ◌∙◌}
use Rattle.abt_lifetime.specs.declared.any_source.AnySource.{AnySource}
use Rattle.abt_lifetime.specs.declared.any_source.AnySource.TheVariants.{Asking}
use Rattle.abt_lifetime.specs.Sound.{IsSound}
use Rattle.abt_lifetime.specs.declared.call.SourceCall.TheVariants.{Answer}
use Rattle.abt_lifetime.specs.Lifetime.{StoredView}
use Rattle.abt_lifetime.specs.Numbers.{IsCarriedOut}
use Rattle.abt_lifetime.specs.Sources.{stored_in}
use Rattle.abt_lifetime.proofs.Carried.{answer_carried}
use Rattle.abt_lifetime.proofs.stored_source.StoredSource.hear.Goals as goal

pub invariant_of-self : goal.invariant_of-self
invariant_of-self g c =
    let content = g.K.SeqStore.content in
    let running = c.self.inside.running in
    let was = c.self.inside.was_started in
    let held = content c.self.inside.store in
    let s = c.in-Asking-taken_out.source in
    let is : running ≡ Asking s = sym c.taken_out.ensures ∙ c.in-Asking-taken_out.is in
    let sound : IsSound (stored_in (Asking s) was held) = subst (λ (r : AnySource). IsSound (stored_in r was held)) is c.self.invariant.0 in
    let left = c.after_answer-self-inside.result in
    let done = answer_carried (Asking s) left was held c.args.answer.now refl sound c.after_answer-self-inside.ensures.up c.after_answer-self-inside.ensures.value in
    (done.0, c.after_answer-self-inside.ensures.waits)

pub returns : goal.returns
returns g c =
    let content = g.K.SeqStore.content in
    let running = c.self.inside.running in
    let was = c.self.inside.was_started in
    let held = content c.self.inside.store in
    let s = c.in-Asking-taken_out.source in
    let is : running ≡ Asking s = sym c.taken_out.ensures ∙ c.in-Asking-taken_out.is in
    let sound : IsSound (stored_in (Asking s) was held) = subst (λ (r : AnySource). IsSound (stored_in r was held)) is c.self.invariant.0 in
    let left = c.after_answer-self-inside.result in
    let done = answer_carried (Asking s) left was held c.args.answer.now refl sound c.after_answer-self-inside.ensures.up c.after_answer-self-inside.ensures.value in
    subst (λ (v : StoredView). IsCarriedOut v (Answer c.args.answer.now) None (stored_in left was held)) (ap (λ (r : AnySource). stored_in r was held) (sym is) ∙ c.self.view_is) done.1
