-- A live source that asks goes on to the actor of the facts with that ask.
use Rattle.std.proofs.Common.{◌≡◌, ◌≢◌, inl, inr, ℕ, Bool, true, false, List, [], ◌∷◌, refl, sym, subst, ap, ◌∙◌}
use Rattle.std.specs.Prelude.{◌++◌, if◌then◌else◌, Option}
use Rattle.std.proofs.lemmas.Bool.{cond-true, cond-false, eq-eqb, ne_eqb}
use Rattle.abt_rate.specs.Limits.{number_max}
use Rattle.abt_cell.specs.Channel.{Channel}
use Rattle.abt_cell.specs.Message.{Terms}
use Rattle.abt_keep.specs.Record.{KeptRecord}
use Rattle.abt_keep.specs.declared.plan.StorePlan.TheVariants.{Works, FailsBefore, FailsAfter}
use Rattle.abt_source.specs.SourceView.{SourceView}
use Rattle.abt_source.specs.Calls.{next_request, has_to_write, record_to_write}
use Rattle.abt_source.specs.SourceFacts.{StandsFor, view_of, stored_by, waiting_in}
use Rattle.abt_source.proofs.Asks.{writes_is, written_is}
use Rattle.abt_source.specs.declared.fault.AskFault.{AskFault}
use Rattle.abt_source.specs.declared.fault.AskFault.TheVariants.{SeqExhausted, Keep}
use Rattle.abt_facts.specs.declared.fact.Fact.{Fact}
use Rattle.abt_facts.specs.declared.fact.Fact.TheVariants.{Asked as FactAsked, Stored}
use Rattle.abt_facts.specs.Source.{SourceState, Down, Idle, Asking, state_of, last_of, clock_of, stored_of, writes, written_for}
use Rattle.abt_facts.specs.Cells.{emitted_of}
use Rattle.abt_model.specs.declared.command.SourceCommand.{SourceCommand}
use Rattle.abt_model.specs.declared.command.SourceCommand.TheVariants.{Ask}
use Rattle.abt_model.specs.declared.outcome.Outcome.{Outcome}
use Rattle.abt_model.specs.declared.outcome.Outcome.TheVariants.{Asked, AskRefused}
use Rattle.abt_model.specs.Answers.{if_up, kept_answer, ask_answer}
use Rattle.abt_model.specs.Outcomes.{write_adds}
use Rattle.abt_actor.specs.Commands.{command_answer}
use Rattle.abt_actor.specs.Actor.{ActorView, actor_of}
use Rattle.abt_live.specs.Asking.{Goes, Stays}
use Rattle.abt_live.specs.Source.{AsksBy, GoesOn}

-- a source that is up isn't down
never_down : (actor : ActorView) (command : SourceCommand) (outcome : Outcome) (after : ActorView) → actor.state ≢ Down → GoesOn actor command outcome after
never_down actor command outcome after up = record { answer = λ down. absurd (up down); becomes = λ down. absurd (up down) }

-- a source that is up answers
up_answers : (state : SourceState) (outcome : Outcome) → state ≢ Down → if_up state outcome ≡ outcome
up_answers Down outcome up = absurd (up refl)
up_answers Idle outcome up = refl
up_answers (Asking seq) outcome up = refl

up_state : (vc : Channel) (facts : List Fact) (actor : ActorView) → actor ≡ actor_of vc facts → actor.state ≢ Down → state_of facts ≢ Down
up_state vc facts actor is up = subst (λ a. a.state ≢ Down) is up

-- what a source has to write is what the facts have it write
same_writes : (vc : Channel) (facts : List Fact) (s : SourceView) (rate : ℕ) → s ≡ view_of vc facts → has_to_write s rate ≡ writes facts rate
same_writes vc facts s rate view = ap (λ (v : SourceView). has_to_write v rate) view ∙ writes_is vc facts rate

same_written : (vc : Channel) (facts : List Fact) (s : SourceView) (rate : ℕ) → s ≡ view_of vc facts → record_to_write s rate ≡ written_for facts rate
same_written vc facts s rate view = ap (λ (v : SourceView). record_to_write v rate) view ∙ written_is vc facts rate

goes_kept : (b : Bool) (request : Terms) → kept_answer b Works request ≡ Asked request
goes_kept true request = refl
goes_kept false request = refl

answered : (vc : Channel) (facts : List Fact) (rate : ℕ) → last_of facts ≢ number_max → ask_answer vc facts rate Works ≡ Asked (next_request (view_of vc facts) rate)
answered vc facts rate left =
    cond-false _ _ _ (ne_eqb (last_of facts) number_max left) ∙ goes_kept (writes facts rate) (next_request (view_of vc facts) rate)

exhausted : (vc : Channel) (facts : List Fact) (rate : ℕ) → last_of facts ≡ number_max → ask_answer vc facts rate Works ≡ AskRefused SeqExhausted
exhausted vc facts rate none = cond-true _ _ _ (eq-eqb (last_of facts) number_max none)

unkept : (vc : Channel) (facts : List Fact) (rate : ℕ) → last_of facts ≢ number_max → writes facts rate ≡ true → ask_answer vc facts rate FailsBefore ≡ AskRefused Keep
unkept vc facts rate left does =
    cond-false _ _ _ (ne_eqb (last_of facts) number_max left) ∙ ap (λ (b : Bool). kept_answer b FailsBefore (next_request (view_of vc facts) rate)) does

kept : (vc : Channel) (facts : List Fact) (rate : ℕ) → last_of facts ≢ number_max → writes facts rate ≡ true → ask_answer vc facts rate FailsAfter ≡ AskRefused Keep
kept vc facts rate left does =
    cond-false _ _ _ (ne_eqb (last_of facts) number_max left) ∙ ap (λ (b : Bool). kept_answer b FailsAfter (next_request (view_of vc facts) rate)) does

-- what a source answers that sends a request
request_answered :
    (vc : Channel) (facts : List Fact) (actor : ActorView) (s : SourceView) (held : KeptRecord) (rate : ℕ) (source : SourceView) (request : Terms) (new : KeptRecord) →
    actor ≡ actor_of vc facts → actor.state ≢ Down → s ≡ actor.source → Goes s held rate source request new →
    Asked request ≡ command_answer vc facts (Ask rate Works)
request_answered vc facts actor s held rate source request new is up has goes =
    let view : s ≡ view_of vc facts = has ∙ ap (λ a. a.source) is in
    let left : last_of facts ≢ number_max = subst (λ (v : SourceView). v.last ≢ number_max) view goes.number_left in
    ap Asked (goes.asked ∙ ap (λ v. next_request v rate) view)
    ∙ sym (up_answers (state_of facts) _ (up_state vc facts actor is up) ∙ answered vc facts rate left)

-- what was written is what is stored then, and the rest stays
stored_after : (facts : List Fact) (seq floor ask mark : ℕ) (b : Bool) (kept : KeptRecord) →
    stored_of (FactAsked seq floor ask mark ∷ (write_adds b kept ++ facts)) ≡ (if b then kept else stored_of facts)
stored_after facts seq floor ask mark true kept = refl
stored_after facts seq floor ask mark false kept = refl

emitted_after : (facts : List Fact) (seq floor ask mark : ℕ) (b : Bool) (kept : KeptRecord) →
    emitted_of (FactAsked seq floor ask mark ∷ (write_adds b kept ++ facts)) ≡ emitted_of facts
emitted_after facts seq floor ask mark true kept = refl
emitted_after facts seq floor ask mark false kept = refl

clock_after : (facts : List Fact) (seq floor ask mark : ℕ) (b : Bool) (kept : KeptRecord) →
    clock_of (FactAsked seq floor ask mark ∷ (write_adds b kept ++ facts)) ≡ clock_of facts
clock_after facts seq floor ask mark true kept = refl
clock_after facts seq floor ask mark false kept = refl

stored_is : (vc : Channel) (facts : List Fact) (s : SourceView) (rate : ℕ) → s ≡ view_of vc facts → stored_by s rate ≡ write_adds (writes facts rate) (written_for facts rate)
stored_is vc facts s rate view =
    ap (λ (b : Bool). if b then Stored (record_to_write s rate) ∷ [] else []) (same_writes vc facts s rate view)
    ∙ ap (λ (r : KeptRecord). if writes facts rate then Stored r ∷ [] else []) (same_written vc facts s rate view)

-- what a source becomes that sends a request
request_after :
    (vc : Channel) (facts : List Fact) (actor : ActorView) (s : SourceView) (held : KeptRecord) (rate : ℕ) (source : SourceView) (request : Terms) (new : KeptRecord) →
    actor ≡ actor_of vc facts → s ≡ actor.source → held ≡ actor.kept → Goes s held rate source request new →
    StandsFor (FactAsked request.seq request.floor request.ask (emitted_of facts) ∷ (stored_by s rate ++ facts)) (Asking request.seq) source →
    record { source = source; state = Asking source.last; kept = new; cells = actor.cells; clock = actor.clock }
    ≡ actor_of vc (FactAsked request.seq request.floor request.ask (emitted_of facts) ∷ (write_adds (writes facts rate) (written_for facts rate) ++ facts))
request_after vc facts actor s held rate source request new is has holds goes stands =
    let view : s ≡ view_of vc facts = has ∙ ap (λ a. a.source) is in
    let added = write_adds (writes facts rate) (written_for facts rate) in
    let facts' = FactAsked request.seq request.floor request.ask (emitted_of facts) ∷ (added ++ facts) in
    let stands' : StandsFor facts' (Asking request.seq) source =
    subst (λ (l : List Fact). StandsFor (FactAsked request.seq request.floor request.ask (emitted_of facts) ∷ (l ++ facts)) (Asking request.seq) source)
    (stored_is vc facts s rate view) stands in
    let last : source.last ≡ request.seq = ap (λ (s : SourceView). s.last) goes.waits in
    let same : source.vc ≡ vc = ap (λ (s : SourceView). s.vc) goes.waits ∙ ap (λ (v : SourceView). v.vc) view in
    let now : source ≡ view_of vc facts' = stands'.view_is ∙ ap (λ v. view_of v facts') same in
    let state : Asking source.last ≡ state_of facts' = ap Asking last ∙ stands'.state_is in
    let cells : actor.cells ≡ emitted_of facts' = ap (λ a. a.cells) is ∙ sym (emitted_after facts request.seq request.floor request.ask (emitted_of facts) (writes facts rate) (written_for facts rate)) in
    let clock : actor.clock ≡ clock_of facts' = ap (λ a. a.clock) is ∙ sym (clock_after facts request.seq request.floor request.ask (emitted_of facts) (writes facts rate) (written_for facts rate)) in
    let kept : new ≡ stored_of facts' =
    goes.kept_is ∙ ap (λ (b : Bool). if b then record_to_write s rate else held) (same_writes vc facts s rate view)
    ∙ ap (λ (r : KeptRecord). if writes facts rate then r else held) (same_written vc facts s rate view)
    ∙ ap (λ (r : KeptRecord). if writes facts rate then written_for facts rate else r) (holds ∙ ap (λ a. a.kept) is)
    ∙ sym (stored_after facts request.seq request.floor request.ask (emitted_of facts) (writes facts rate) (written_for facts rate)) in
    cc

-- A request went out.
pub asks_out :
    (actor : ActorView) (s : SourceView) (held : KeptRecord) (rate : ℕ) (source : SourceView) (request : Terms) (new : KeptRecord) →
    actor.state ≢ Down → s ≡ actor.source → held ≡ actor.kept → Goes s held rate source request new →
    ((vc : Channel) (facts : List Fact) → actor ≡ actor_of vc facts →
    StandsFor (FactAsked request.seq request.floor request.ask (emitted_of facts) ∷ (stored_by s rate ++ facts)) (Asking request.seq) source) →
    AsksBy actor rate (Asked request) (record { source = source; state = Asking source.last; kept = new; cells = actor.cells; clock = actor.clock })
asks_out actor s held rate source request new up has holds goes stands = record {
  plan = Works;
  works = λ _. refl;
  down = never_down actor _ _ _ up;
  carries = λ vc facts is. (
    request_answered vc facts actor s held rate source request new is up has goes,
    request_after vc facts actor s held rate source request new is has holds goes (stands vc facts is),
  );
}

waiting_stored : (vc : Channel) (facts : List Fact) (kept : KeptRecord) (state : SourceState) → waiting_in vc facts state ≡ waiting_in vc (Stored kept ∷ facts) state
waiting_stored vc facts kept Down = refl
waiting_stored vc facts kept Idle = refl
waiting_stored vc facts kept (Asking seq) = refl

with_kept : (vc : Channel) (facts : List Fact) (actor : ActorView) (kept : KeptRecord) → actor ≡ actor_of vc facts → record actor { kept = kept } ≡ record (actor_of vc facts) { kept = kept }
with_kept vc facts actor kept is = ap {A = ActorView} {B = ActorView} (λ a. record a { kept = kept }) is

same_but_kept : (vc : Channel) (facts : List Fact) (actor : ActorView) (kept : KeptRecord) → actor ≡ actor_of vc facts → kept ≡ actor.kept → record actor { kept = kept } ≡ actor_of vc facts
same_but_kept vc facts actor kept is same = ap (λ n. record actor { kept = n }) same ∙ is

-- the view of a source leaves out what is stored
stored_only : (vc : Channel) (facts : List Fact) (actor : ActorView) (kept : KeptRecord) → actor ≡ actor_of vc facts → record actor { kept = kept } ≡ actor_of vc (Stored kept ∷ facts)
stored_only vc facts actor kept is =
    with_kept vc facts actor kept is
    ∙ ap (λ (w : Option Terms). record (actor_of vc facts) { kept = kept; source = record (view_of vc facts) { newest = w } }) (waiting_stored vc facts kept (state_of facts))

-- None did: numbers are used up, or the record isn't kept, or it is all the same.
pub asks_in_vain :
    (actor : ActorView) (s : SourceView) (rate : ℕ) (new : KeptRecord) (fault : AskFault) → actor.state ≢ Down → s ≡ actor.source → Stays s actor.kept rate new fault →
    AsksBy actor rate (AskRefused fault) (record actor { kept = new })
asks_in_vain actor s rate new SeqExhausted up has (none, same) = record {
  plan = Works;
  works = λ _. refl;
  down = never_down actor _ _ _ up;
  carries = λ vc facts is. (
    let view : s ≡ view_of vc facts = has ∙ ap (λ a. a.source) is in
        let last : last_of facts ≡ number_max = subst (λ (v : SourceView). v.last ≡ number_max) view none in
        sym (up_answers (state_of facts) _ (up_state vc facts actor is up) ∙ exhausted vc facts rate last),
    same_but_kept vc facts actor new is same,
  );
}
asks_in_vain actor s rate new Keep up has (some, does, inl same) = record {
  plan = FailsBefore;
  works = λ no. absurd (no refl);
  down = never_down actor _ _ _ up;
  carries = λ vc facts is. (
    let view : s ≡ view_of vc facts = has ∙ ap (λ a. a.source) is in
        let left : last_of facts ≢ number_max = subst (λ (v : SourceView). v.last ≢ number_max) view some in
        let wrote : writes facts rate ≡ true = sym (same_writes vc facts s rate view) ∙ does in
        sym (up_answers (state_of facts) _ (up_state vc facts actor is up) ∙ unkept vc facts rate left wrote),
    same_but_kept vc facts actor new is same,
  );
}
asks_in_vain actor s rate new Keep up has (some, does, inr written) = record {
  plan = FailsAfter;
  works = λ no. absurd (no refl);
  down = never_down actor _ _ _ up;
  carries = λ vc facts is. (
    let view : s ≡ view_of vc facts = has ∙ ap (λ a. a.source) is in
        let left : last_of facts ≢ number_max = subst (λ (v : SourceView). v.last ≢ number_max) view some in
        let wrote : writes facts rate ≡ true = sym (same_writes vc facts s rate view) ∙ does in
        sym (up_answers (state_of facts) _ (up_state vc facts actor is up) ∙ kept vc facts rate left wrote),
    let view : s ≡ view_of vc facts = has ∙ ap (λ a. a.source) is in
        let now_kept : new ≡ written_for facts rate = written ∙ same_written vc facts s rate view in
        ap (λ (r : KeptRecord). record actor { kept = r }) now_kept ∙ stored_only vc facts actor (written_for facts rate) is,
  );
}
