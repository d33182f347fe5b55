use Rattle.std.proofs.Common.{◌≡◌, None, ap, sym, subst, ◌∙◌}
use Rattle.abt_lifetime.specs.declared.any_source.AnySource.{AnySource}
use Rattle.abt_lifetime.specs.declared.any_source.AnySource.TheVariants.{Down}
use Rattle.abt_lifetime.specs.declared.call.SourceCall.TheVariants.{Start}
use Rattle.abt_lifetime.specs.Lifetime.{StoredView}
use Rattle.abt_lifetime.specs.Numbers.{IsCarriedOut}
use Rattle.abt_lifetime.specs.Sound.{IsSound}
use Rattle.abt_lifetime.specs.Sources.{stored_in}
use Rattle.abt_lifetime.proofs.Carried.{refused_carried}
use Rattle.abt_lifetime.proofs.stored_source.StoredSource.start.Goals as goal

pub returns-in-Err : goal.returns-in-Err
returns-in-Err g c =
    let content = g.K.SeqStore.content in
    let running = c.self.inside.running in
    let was = c.self.inside.was_started in
    let old = content c.self.inside.store in
    let new = content c.start.new.store in
    let s = c.in-Down.source in
    let is : running ≡ Down s = sym c.taken_out.ensures ∙ c.in-Down.is in
    let sound : IsSound (stored_in (Down s) was old) = subst (λ (r : AnySource). IsSound (stored_in r was old)) is c.self.invariant.0 in
    let gives = c.in-Err.ensures.gives in
    let done = refused_carried s was old new c.args.now c.in-Err.field-0 gives.0 sound gives.2 c.in-Err.ensures.same in
    subst (λ (v : StoredView). IsCarriedOut v (Start c.args.now) None (stored_in (Down c.in-Err.field-0.source) was new)) (ap (λ (r : AnySource). stored_in r was old) (sym is) ∙ c.self.view_is) done.1
