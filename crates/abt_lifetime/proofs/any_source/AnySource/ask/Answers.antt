use Rattle.std.proofs.Common.{◌≡◌, ◌≢◌, ◌≤◌, ◌<◌, ap, true, sym, subst, arith}
use Rattle.std.specs.Prelude.{Some, None}
use Rattle.abt_rate.specs.Limits.{number_max}
use Rattle.abt_keep.specs.declared.plan.StorePlan.{StorePlan}
use Rattle.abt_lifetime.specs.declared.any_source.AnySource.{AnySource}
use Rattle.abt_lifetime.specs.declared.any_source.AnySource.TheVariants.{Idle, Asking}
use Rattle.abt_lifetime.specs.Lifetime.{Called, asked}
use Rattle.abt_lifetime.specs.Sources.{source_in, stored_in}
use Rattle.abt_lifetime.proofs.Asked.{goes_out, goes_nowhere}
use Rattle.abt_lifetime.proofs.any_source.AnySource.ask.Goals as goal

pub returns-in-Ok-clause-value : goal.returns-in-Ok-clause-value
returns-in-Ok-clause-value g c =
    let content = g.K.SeqStore.content in
    let s = c.in-Idle.source in
    let t = c.in-Ok.source in
    let q = c.in-Ok.request in
    let old = content c.args.store.now in
    let new = content c.ask.new.store in
    let last : s.last ≤ number_max = subst (λ (r : AnySource). (source_in r).last ≤ number_max) c.in-Idle.is c.requires.last in
    let some : s.last ≢ number_max = λ e. (let no = c.in-Ok.ensures.seq_exhausted.1 e in absurd (cc)) in
    let left : s.last < number_max = omega arith in
    subst (λ (r : AnySource). (plan : StorePlan) × (let is : Called = record { after = stored_in (Asking t) true new; request = Some q } in is ≡ asked plan (stored_in r true old) c.args.rate)) (sym c.in-Idle.is)
    (goes_out _ s t q old new c.args.rate left
    (λ not. (let both = c.in-Ok.ensures.kept left not in (ap content both.0, both.1)))
    (λ does. (let given = c.in-Ok.ensures.gives left does in (given.0, given.2)))
    c.in-Ok.ensures.ok)

pub returns-in-Err-clause-value : goal.returns-in-Err-clause-value
returns-in-Err-clause-value g c =
    let content = g.K.SeqStore.content in
    let s = c.in-Idle.source in
    let r = c.in-Err.field-0 in
    let old = content c.args.store.now in
    let new = content c.ask.new.store in
    let last : s.last ≤ number_max = subst (λ (x : AnySource). (source_in x).last ≤ number_max) c.in-Idle.is c.requires.last in
    subst (λ (x : AnySource). (plan : StorePlan) × (let is : Called = record { after = stored_in (Idle r.source) true new; request = None } in is ≡ asked plan (stored_in x true old) c.args.rate)) (sym c.in-Idle.is)
    (goes_nowhere _ s r old new c.args.rate last
    c.in-Err.ensures.seq_exhausted.1
    (λ all. ap content (c.in-Err.ensures.same all))
    (λ left not. (c.in-Err.ensures.kept left not).1)
    (λ left does. (let given = c.in-Err.ensures.gives left does in (given.0, given.2)))
    (λ is. (c.in-Err.ensures.keep is).0))

pub returns-in-Ok-ask-clause-value : goal.returns-in-Ok-ask-clause-value
returns-in-Ok-ask-clause-value g c =
    let content = g.K.SeqStore.content in
    let s = c.in-Asking.source in
    let t = c.in-Ok-ask.source in
    let q = c.in-Ok-ask.request in
    let old = content c.args.store.now in
    let new = content c.ask-in-Asking.new.store in
    let last : s.last ≤ number_max = subst (λ (r : AnySource). (source_in r).last ≤ number_max) c.in-Asking.is c.requires.last in
    let some : s.last ≢ number_max = λ e. (let no = c.in-Ok-ask.ensures.seq_exhausted.1 e in absurd (cc)) in
    let left : s.last < number_max = omega arith in
    subst (λ (r : AnySource). (plan : StorePlan) × (let is : Called = record { after = stored_in (Asking t) true new; request = Some q } in is ≡ asked plan (stored_in r true old) c.args.rate)) (sym c.in-Asking.is)
    (goes_out _ s t q old new c.args.rate left
    (λ not. (let both = c.in-Ok-ask.ensures.kept left not in (ap content both.0, both.1)))
    (λ does. (let given = c.in-Ok-ask.ensures.gives left does in (given.0, given.2)))
    c.in-Ok-ask.ensures.ok)

pub returns-in-Err-ask-clause-value : goal.returns-in-Err-ask-clause-value
returns-in-Err-ask-clause-value g c =
    let content = g.K.SeqStore.content in
    let s = c.in-Asking.source in
    let r = c.in-Err-ask.field-0 in
    let old = content c.args.store.now in
    let new = content c.ask-in-Asking.new.store in
    let last : s.last ≤ number_max = subst (λ (x : AnySource). (source_in x).last ≤ number_max) c.in-Asking.is c.requires.last in
    subst (λ (x : AnySource). (plan : StorePlan) × (let is : Called = record { after = stored_in (Asking r.source) true new; request = None } in is ≡ asked plan (stored_in x true old) c.args.rate)) (sym c.in-Asking.is)
    (goes_nowhere _ s r old new c.args.rate last
    c.in-Err-ask.ensures.seq_exhausted.1
    (λ all. ap content (c.in-Err-ask.ensures.same all))
    (λ left not. (c.in-Err-ask.ensures.kept left not).1)
    (λ left does. (let given = c.in-Err-ask.ensures.gives left does in (given.0, given.2)))
    (λ is. (c.in-Err-ask.ensures.keep is).0))
