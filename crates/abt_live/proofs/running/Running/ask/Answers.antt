-- An ask of a source in any state that is up.
use Rattle.std.proofs.Common.{◌≢◌, ◌≤◌, ◌<◌, ◌∷◌, ◌++◌, ap, sym, subst, ◌∙◌, arith}
use Rattle.abt_rate.specs.Limits.{number_max}
use Rattle.abt_facts.specs.declared.fact.Fact.TheVariants.{Asked}
use Rattle.abt_facts.specs.Source.{Asking}
use Rattle.abt_source.specs.SourceFacts.{StandsFor, stored_by}
use Rattle.abt_live.specs.Asking.{Goes, Stays}
use Rattle.abt_live.specs.Running.{source_in, state_in}
use Rattle.abt_live.specs.declared.running.Running.{Running}
use Rattle.abt_live.specs.declared.running.Running.TheVariants.{Idle as IsIdle, Asking as IsAsking}
use Rattle.abt_live.proofs.Asks.{goes, stays}
use Rattle.abt_live.proofs.running.Running.ask.Goals as goal

pub returns-in-Ok-clause-ok : goal.returns-in-Ok-clause-ok
returns-in-Ok-clause-ok g c =
    let content = g.K.SeqStore.content in
    let s = c.in-Idle.source in
    let last : s.last ≤ number_max = subst (λ (r : Running). (source_in r).last ≤ number_max) c.in-Idle.is c.requires.last in
    let some : s.last ≢ number_max = λ e. (let no = c.in-Ok.ensures.seq_exhausted.1 e in absurd (cc)) in
    let left : s.last < number_max = omega arith in
    subst (λ (r : Running). Goes (source_in r) (content c.args.store.now) c.args.rate c.in-Ok.asked.0 c.in-Ok.asked.1 (content c.ask.new.store)) (sym c.in-Idle.is)
    (goes _ s c.in-Ok.asked.0 c.in-Ok.asked.1 (content c.args.store.now) (content c.ask.new.store) c.args.rate left
    (λ not. (let both = c.in-Ok.ensures.kept left not in (ap content both.0, both.1)))
    (λ does. (let given = c.in-Ok.ensures.gives left does in (given.0, given.2)))
    c.in-Ok.ensures.ok)

pub returns-in-Ok-clause-facts : goal.returns-in-Ok-clause-facts
returns-in-Ok-clause-facts g c facts mark stands =
    let request = c.in-Ok.asked.1 in
    subst (λ r. StandsFor (Asked request.seq request.floor request.ask mark ∷ (stored_by (source_in r) c.args.rate ++ facts)) (Asking request.seq) c.in-Ok.asked.0)
    (sym c.in-Idle.is) (c.in-Ok.ensures.facts facts mark (subst (λ r. StandsFor facts (state_in r) (source_in r)) c.in-Idle.is stands))

pub returns-in-Err-clause-err : goal.returns-in-Err-clause-err
returns-in-Err-clause-err g c =
    let content = g.K.SeqStore.content in
    let s = c.in-Idle.source in
    let r = c.in-Err.field-0 in
    let last : s.last ≤ number_max = subst (λ (r : Running). (source_in r).last ≤ number_max) c.in-Idle.is c.requires.last in
    subst (λ (x : Running). Stays (source_in x) (content c.args.store.now) c.args.rate (content c.ask.new.store) r.fault) (sym c.in-Idle.is)
    (stays _ s r (content c.args.store.now) (content c.ask.new.store) c.args.rate last
    c.in-Err.ensures.seq_exhausted.1
    (λ all. ap content (c.in-Err.ensures.same all))
    (λ left not. (c.in-Err.ensures.kept left not).1)
    (λ left does. (let given = c.in-Err.ensures.gives left does in (given.0, given.2)))
    (λ is. (c.in-Err.ensures.keep is).0)).1

pub returns-in-Err-clause-same : goal.returns-in-Err-clause-same
returns-in-Err-clause-same g c =
    let content = g.K.SeqStore.content in
    let s = c.in-Idle.source in
    let r = c.in-Err.field-0 in
    let last : s.last ≤ number_max = subst (λ (r : Running). (source_in r).last ≤ number_max) c.in-Idle.is c.requires.last in
    ap IsIdle (stays _ s r (content c.args.store.now) (content c.ask.new.store) c.args.rate last
    c.in-Err.ensures.seq_exhausted.1
    (λ all. ap content (c.in-Err.ensures.same all))
    (λ left not. (c.in-Err.ensures.kept left not).1)
    (λ left does. (let given = c.in-Err.ensures.gives left does in (given.0, given.2)))
    (λ is. (c.in-Err.ensures.keep is).0)).0 ∙ sym c.in-Idle.is

pub returns-in-Ok-ask-clause-ok : goal.returns-in-Ok-ask-clause-ok
returns-in-Ok-ask-clause-ok g c =
    let content = g.K.SeqStore.content in
    let s = c.in-Asking.source in
    let last : s.last ≤ number_max = subst (λ (r : Running). (source_in r).last ≤ number_max) c.in-Asking.is c.requires.last in
    let some : s.last ≢ number_max = λ e. (let no = c.in-Ok-ask.ensures.seq_exhausted.1 e in absurd (cc)) in
    let left : s.last < number_max = omega arith in
    subst (λ (r : Running). Goes (source_in r) (content c.args.store.now) c.args.rate c.in-Ok-ask.asked.0 c.in-Ok-ask.asked.1 (content c.ask-in-Asking.new.store)) (sym c.in-Asking.is)
    (goes _ s c.in-Ok-ask.asked.0 c.in-Ok-ask.asked.1 (content c.args.store.now) (content c.ask-in-Asking.new.store) c.args.rate left
    (λ not. (let both = c.in-Ok-ask.ensures.kept left not in (ap content both.0, both.1)))
    (λ does. (let given = c.in-Ok-ask.ensures.gives left does in (given.0, given.2)))
    c.in-Ok-ask.ensures.ok)

pub returns-in-Ok-ask-clause-facts : goal.returns-in-Ok-ask-clause-facts
returns-in-Ok-ask-clause-facts g c facts mark stands =
    let request = c.in-Ok-ask.asked.1 in
    subst (λ r. StandsFor (Asked request.seq request.floor request.ask mark ∷ (stored_by (source_in r) c.args.rate ++ facts)) (Asking request.seq) c.in-Ok-ask.asked.0)
    (sym c.in-Asking.is) (c.in-Ok-ask.ensures.facts facts mark (subst (λ r. StandsFor facts (state_in r) (source_in r)) c.in-Asking.is stands))

pub returns-in-Err-ask-clause-err : goal.returns-in-Err-ask-clause-err
returns-in-Err-ask-clause-err g c =
    let content = g.K.SeqStore.content in
    let s = c.in-Asking.source in
    let r = c.in-Err-ask.field-0 in
    let last : s.last ≤ number_max = subst (λ (r : Running). (source_in r).last ≤ number_max) c.in-Asking.is c.requires.last in
    subst (λ (x : Running). Stays (source_in x) (content c.args.store.now) c.args.rate (content c.ask-in-Asking.new.store) r.fault) (sym c.in-Asking.is)
    (stays _ s r (content c.args.store.now) (content c.ask-in-Asking.new.store) c.args.rate last
    c.in-Err-ask.ensures.seq_exhausted.1
    (λ all. ap content (c.in-Err-ask.ensures.same all))
    (λ left not. (c.in-Err-ask.ensures.kept left not).1)
    (λ left does. (let given = c.in-Err-ask.ensures.gives left does in (given.0, given.2)))
    (λ is. (c.in-Err-ask.ensures.keep is).0)).1

pub returns-in-Err-ask-clause-same : goal.returns-in-Err-ask-clause-same
returns-in-Err-ask-clause-same g c =
    let content = g.K.SeqStore.content in
    let s = c.in-Asking.source in
    let r = c.in-Err-ask.field-0 in
    let last : s.last ≤ number_max = subst (λ (r : Running). (source_in r).last ≤ number_max) c.in-Asking.is c.requires.last in
    ap IsAsking (stays _ s r (content c.args.store.now) (content c.ask-in-Asking.new.store) c.args.rate last
    c.in-Err-ask.ensures.seq_exhausted.1
    (λ all. ap content (c.in-Err-ask.ensures.same all))
    (λ left not. (c.in-Err-ask.ensures.kept left not).1)
    (λ left does. (let given = c.in-Err-ask.ensures.gives left does in (given.0, given.2)))
    (λ is. (c.in-Err-ask.ensures.keep is).0)).0 ∙ sym c.in-Asking.is
