use Rattle.std.proofs.Common.{rules, ◌≡◌, ◌≢◌, ◌∙◌, ◌++◌, sym, ap, subst}
use Rattle.abt_facts.specs.Source.{Down}
use Rattle.abt_facts.specs.Cells.{emitted_of}
use Rattle.abt_model.specs.declared.command.SourceCommand.TheVariants.{Ask}
use Rattle.abt_model.specs.declared.outcome.Outcome.TheVariants.{Asked, AskRefused}
use Rattle.abt_actor.specs.Commands.{command_answer, command_adds}
use Rattle.abt_source.specs.SourceFacts.{StandsFor, view_of}
use Rattle.abt_actor.specs.Actor.{ActorView, actor_of}
use Rattle.abt_actor.specs.Sources.{source_in, state_in, actor_in}
use Rattle.abt_actor.proofs.Asking.{Stays, goes, stays, request_answered, request_after, refusal_answered, refusal_after, written_by_facts}
use Rattle.abt_actor.proofs.actor.SourceActor.ask.Goals as goal

-- the actor before
abbrev before : goal.After-of_request-added → ActorView
before c = actor_in c.self.inside.running c.self.inside.store.kept c.self.inside.cells c.self.inside.clock

up : (c : goal.After-of_request-added) → (before c).state ≢ Down
up c = search rules

abbrev before' : goal.After-of_refusal-added → ActorView
before' c = actor_in c.self.inside.running c.self.inside.store.kept c.self.inside.cells c.self.inside.clock

up' : (c : goal.After-of_refusal-added) → (before' c).state ≢ Down
up' c = search rules

pub returns-in-Ok : goal.returns-in-Ok
returns-in-Ok c vc facts is =
    let was : before c ≡ actor_of vc facts = c.self.view_is ∙ is in
    let from : c.taken_out.result ≡ c.self.inside.running = c.taken_out.ensures in
    let source : source_in c.taken_out.result ≡ (before c).source = ap source_in from in
    let plan = ap (λ s. s.plan) c.plan.ensures in
    let gone = goes c.taken_out.result c.plan.new.self c.args.rate c.in-Ok.source c.in-Ok.request c.ask-asked.new.store
    (ap (λ r. (r, c.ask-asked.new.store)) (sym c.in-Ok.is) ∙ c.ask-asked.ensures.value) in
    let stood : StandsFor facts (state_in c.taken_out.result) (source_in c.taken_out.result) = record {
      state_is = ap state_in from ∙ ap (λ a. a.state) was;
      view_is = source ∙ ap (λ a. a.source) was ∙ ap (λ v. view_of v facts) (sym (ap (λ s. s.vc) source ∙ ap (λ a. a.source.vc) was));
    } in
    let stands = c.in-Ok.ensures.facts facts (emitted_of facts) stood in
    let written = written_by_facts vc facts (before c).source c.args.rate c.record_to_write-written.result (ap (λ a. a.source) was) c.record_to_write-written.ensures in
    let added = c.of_request-added.ensures facts c.args.plan c.args.rate (ap (λ a. a.cells) was) written in
    let held = ap (λ s. s.kept) c.plan.ensures in
    let after = request_after vc facts (before c) c.taken_out.result c.plan.new.self c.ask-asked.new.store c.args.rate
    c.in-Ok.source c.in-Ok.request was source held gone stands in
    record {
      answer = subst (λ p. Asked c.in-Ok.request ≡ command_answer vc facts (Ask c.args.rate p)) plan
          (request_answered vc facts (before c) c.taken_out.result c.plan.new.self c.ask-asked.new.store c.args.rate c.in-Ok.source c.in-Ok.request was (up c) source gone);
      adds = added;
      becomes = rw added (rw (ap (λ s. s.kept) c.plan-2.ensures) after);
    }

-- the source stays as it was, whose ask is refused
stayed : (c : goal.After-of_refusal-added) → (c.in-Err.running ≡ c.taken_out.result) × Stays c.taken_out.result c.plan.new.self c.args.rate c.ask-asked.new.store c.in-Err.fault
stayed c = stays c.taken_out.result c.in-Err.running c.plan.new.self c.args.rate c.in-Err.fault c.ask-asked.new.store
    (ap (λ r. (r, c.ask-asked.new.store)) (sym c.in-Err.is) ∙ c.ask-asked.ensures.value)

pub invariant_of-self-in-Err : goal.invariant_of-self-in-Err
invariant_of-self-in-Err c =
    let same : c.in-Err.running ≡ c.self.inside.running = (stayed c).0 ∙ c.taken_out.ensures in
    let sound = c.self.invariant.1 in
    (ap (λ s. s.plan) c.plan-2.ensures, rw same (record { apart = sound.apart; due = sound.due; emitted = sound.emitted; still = sound.still }))

pub returns-in-Err : goal.returns-in-Err
returns-in-Err c vc facts is =
    let was : before' c ≡ actor_of vc facts = c.self.view_is ∙ is in
    let from : c.taken_out.result ≡ c.self.inside.running = c.taken_out.ensures in
    let source : source_in c.taken_out.result ≡ (before' c).source = ap source_in from in
    let plan = ap (λ s. s.plan) c.plan.ensures in
    let held = ap (λ s. s.kept) c.plan.ensures in
    let written = written_by_facts vc facts (before' c).source c.args.rate c.record_to_write-written.result (ap (λ a. a.source) was) c.record_to_write-written.ensures in
    let added = c.of_refusal-added.ensures facts c.args.rate written in
    let after = subst (λ p. record (before' c) { kept = c.ask-asked.new.store.kept } ≡ actor_of vc (command_adds facts (Ask c.args.rate p) (AskRefused c.in-Err.fault) ++ facts)) plan
    (refusal_after vc facts (before' c) c.taken_out.result c.plan.new.self c.ask-asked.new.store c.args.rate c.in-Err.fault was source held (stayed c).1) in
    record {
      answer = subst (λ p. AskRefused c.in-Err.fault ≡ command_answer vc facts (Ask c.args.rate p)) plan
          (refusal_answered vc facts (before' c) c.taken_out.result c.plan.new.self c.ask-asked.new.store c.args.rate c.in-Err.fault was (up' c) source (stayed c).1);
      adds = added;
      becomes = rw added (rw ((stayed c).0 ∙ from) (rw (ap (λ s. s.kept) c.plan-2.ensures) after));
    }
