-- A source hears the answer to the request that it waits for, and replays go on entry by entry.
use Rattle.std.proofs.Common.{◌≡◌, ◌∙◌, ℕ, ◌++◌, List, Bool, true, refl, sym, ap, Some}
use Rattle.std.specs.Prelude.{◌==◌, ◌&&◌, if◌then◌else◌}
use Rattle.std.proofs.lemmas.Bool.{eq-eqb}
use Rattle.abt_cell.specs.Channel.{Channel}
use Rattle.abt_cell.specs.Message.{Terms}
use Rattle.abt_cell.proofs.ChannelLemmas.{same_channel-refl}
use Rattle.abt_facts.specs.declared.fact.Fact.{Fact}
use Rattle.abt_facts.specs.Source.{SourceState, Down, Idle, Asking, state_of}
use Rattle.abt_source.specs.Calls.{same_terms}
use Rattle.abt_source.specs.SourceFacts.{request_of}
use Rattle.abt_model.specs.Answers.{again_answer, hearing, told_answer}
use Rattle.abt_model.specs.Outcomes.{facts_added}
use Rattle.abt_model.specs.declared.command.SourceCommand.TheVariants.{Again, Told as TellsAnswer}
use Rattle.abt_model.specs.declared.event.Event.TheVariants as event
use Rattle.abt_model.specs.declared.outcome.Heard.TheVariants.{Ignored}
use Rattle.abt_model.specs.declared.outcome.Outcome.{Outcome}
use Rattle.abt_model.specs.declared.outcome.Outcome.TheVariants.{Repeated, Told as HasTold}
use Rattle.abt_model.specs.declared.target.SourceEvent.TheVariants.{Told}
use Rattle.abt_actor.specs.Actor.{ActorView, actor_of, awaited_in, CarriesOut}
use Rattle.abt_actor.specs.Commands.{heard_by}
use Rattle.abt_audit.specs.Protocol.{own_answer, own_facts}

awaits : (state : SourceState) (seq : ℕ) → awaited_in state ≡ Some seq → state ≡ Asking seq
awaits Down seq h = absurd (cc)
awaits Idle seq h = absurd (cc)
awaits (Asking newest) seq h = cc

same_terms-refl : (t : Terms) → same_terms t t ≡ true
same_terms-refl t =
    ap (λ x. x && (t.seq == t.seq) && (t.floor == t.floor) && (t.ask == t.ask)) (same_channel-refl t.vc)
    ∙ ap (λ x. true && x && (t.floor == t.floor) && (t.ask == t.ask)) (eq-eqb t.seq t.seq refl)
    ∙ ap (λ x. true && true && x && (t.ask == t.ask)) (eq-eqb t.floor t.floor refl)
    ∙ ap (λ x. true && true && true && x) (eq-eqb t.ask t.ask refl)

heard_own : (vc : Channel) (facts : List Fact) (seq : ℕ) (granted : Bool) →
    heard_by vc facts (Asking seq) (record { terms = request_of vc facts seq; granted = granted }) ≡ told_answer (Asking seq) seq granted
heard_own vc facts seq granted =
    ap (λ b. if b then hearing granted else Ignored) (same_terms-refl (request_of vc facts seq))
    ∙ sym (ap (λ b. if b then hearing granted else Ignored) (eq-eqb seq seq refl))

pub hears : (vc : Channel) (facts : List Fact) (old repeated new : ActorView) (seq : ℕ) (granted : Bool) (request : Terms) (told : Outcome)
    → old ≡ actor_of vc facts → awaited_in old.state ≡ Some seq → CarriesOut old Again (Repeated request) repeated
    → CarriesOut repeated (TellsAnswer (record { terms = request; granted = granted })) told new
    → (told ≡ own_answer vc facts (Told seq granted)) × (new ≡ actor_of vc (own_facts vc facts (Told seq granted)))
hears vc facts old repeated new seq granted request told is waits again tells =
    let state : state_of facts ≡ Asking seq = awaits (state_of facts) seq (ap (λ (a : ActorView). awaited_in a.state) (sym is) ∙ waits) in
    let first = again vc facts is in
    let repeats : Repeated request ≡ Repeated (request_of vc facts seq) = first.0 ∙ ap (λ (s : SourceState). again_answer vc s facts) state in
    let same : request ≡ request_of vc facts seq = cc in
    let second = tells vc facts first.1 in
    let answer : told ≡ HasTold (told_answer (state_of facts) seq granted) =
    second.0
    ∙ ap (λ (t : Terms). HasTold (heard_by vc facts (state_of facts) (record { terms = t; granted = granted }))) same
    ∙ ap (λ (s : SourceState). HasTold (heard_by vc facts s (record { terms = request_of vc facts seq; granted = granted }))) state
    ∙ ap HasTold (heard_own vc facts seq granted)
    ∙ sym (ap (λ (s : SourceState). HasTold (told_answer s seq granted)) state) in (
      answer,
      second.1
          ∙ ap (λ (o : Outcome). actor_of vc (facts_added facts (event.Told 0 request.seq granted) o ++ facts)) answer
          ∙ ap (λ (t : Terms). actor_of vc (facts_added facts (event.Told 0 t.seq granted) (HasTold (told_answer (state_of facts) seq granted)) ++ facts)) same,
    )
