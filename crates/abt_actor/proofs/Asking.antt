-- An actor that asks goes on to the actor of the facts with that request.
use Rattle.std.proofs.Common.{◌≡◌, ◌≢◌, ℕ, Bool, true, false, List, [], ◌∷◌, Result, Ok, Err, refl, sym, subst, ap, ◌∙◌, arith}
use Rattle.std.specs.Prelude.{◌==◌, ◌++◌, if◌then◌else◌, Option, None, Some, IsSome}
use Rattle.std.proofs.lemmas.Bool.{cond-true, cond-false, eq-eqb, ne_eqb}
use Rattle.std.proofs.lemmas.Bool.Decides.{nat_tests}
use Rattle.abt_cell.specs.Channel.{Channel}
use Rattle.abt_cell.specs.Message.{Terms}
use Rattle.abt_keep.specs.Record.{KeptRecord}
use Rattle.abt_keep.specs.MemoryStore.{StoreView, keep_under}
use Rattle.abt_keep.specs.declared.plan.StorePlan.{StorePlan}
use Rattle.abt_keep.specs.declared.plan.StorePlan.TheVariants.{Works, FailsBefore, FailsAfter}
use Rattle.abt_source.specs.SourceView.{SourceView}
use Rattle.abt_source.specs.Calls.{asking_source, next_request, has_to_write, record_to_write}
use Rattle.abt_source.specs.SourceFacts.{StandsFor, view_of, stored_by, waiting_in}
use Rattle.abt_source.proofs.Asks.{writes_is, written_is}
use Rattle.abt_source.specs.declared.fault.AskFault.{AskFault}
use Rattle.abt_source.specs.declared.fault.AskFault.TheVariants.{SeqExhausted, Keep}
use Rattle.abt_facts.specs.declared.fact.Fact.{Fact}
use Rattle.abt_facts.specs.declared.fact.Fact.TheVariants.{Asked as FactAsked, Stored}
use Rattle.abt_facts.specs.Source.{SourceState, Down, Idle, Asking, state_of, last_of, clock_of, stored_of, writes, written_for}
use Rattle.abt_facts.specs.Cells.{emitted_of}
use Rattle.abt_model.specs.declared.command.SourceCommand.TheVariants.{Ask}
use Rattle.abt_model.specs.declared.outcome.Outcome.TheVariants.{Asked, AskRefused}
use Rattle.abt_model.specs.Answers.{kept_answer, ask_answer}
use Rattle.abt_model.specs.Outcomes.{write_adds}
use Rattle.abt_actor.specs.declared.any_source.AnySource.{AnySource}
use Rattle.abt_actor.specs.Commands.{command_answer, command_adds}
use Rattle.abt_actor.specs.Actor.{ActorView, actor_of}
use Rattle.abt_actor.specs.Sources.{source_in, asked_by, goes_from, result_of_asking}
use Rattle.abt_actor.proofs.Emitting.{up_answers}

-- what the store keeps after an ask whose request went out
abbrev kept_by : AnySource → StoreView → (rate : ℕ) → KeptRecord
kept_by running store rate = if has_to_write (source_in running) rate then record_to_write (source_in running) rate else store.kept

-- what holds when a request goes out
pub record Goes (running : AnySource) (store : StoreView) (rate : ℕ) (source : SourceView) (request : Terms) (after : StoreView) : Type 0 where
  pub number_left : (source_in running).last ≢ 4294967295
  pub works : has_to_write (source_in running) rate ≡ true → store.plan ≡ Works
  pub asked : request ≡ next_request (source_in running) rate
  pub waits : source ≡ asking_source (source_in running) request
  pub kept : after.kept ≡ kept_by running store rate

abbrev Answer : Type 0
Answer = Result (SourceView × Terms) (AnySource × AskFault) × StoreView

abbrev asked_in : Result (SourceView × Terms) (AnySource × AskFault) → SourceView × Terms → SourceView × Terms
asked_in (Ok asked) other = asked
asked_in (Err refused) other = other

abbrev refused_in : Result (SourceView × Terms) (AnySource × AskFault) → AnySource × AskFault → AnySource × AskFault
refused_in (Ok asked) other = other
refused_in (Err refused) other = refused

-- the answer by whether numbers are used up, whether the ask writes, and the plan
abbrev answer_by : (used writes : Bool) (plan : StorePlan) (running : AnySource) (store : StoreView) (rate : ℕ) → Answer
answer_by used writes plan running store rate =
    if used then (Err (running, SeqExhausted), store)
    else (if writes then asked_by running rate (keep_under plan store (record_to_write (source_in running) rate)) else (goes_from running rate, store))

goes_parts :
    (running : AnySource) (store : StoreView) (rate : ℕ) (source : SourceView) (request : Terms) (kept : KeptRecord) (after plain : StoreView) →
    (source_in running).last ≢ 4294967295 → (has_to_write (source_in running) rate ≡ true → store.plan ≡ Works) → plain.kept ≡ kept_by running store rate →
    ◌≡◌ {A = Answer} (Ok (source, request), after) (goes_from running rate, plain) → Goes running store rate source request after
goes_parts running store rate source request kept after plain left works is h = record {
  number_left = left;
  works = works;
  asked = ap (λ (p : Answer). (asked_in p.0 (source, request)).1) h;
  waits =
      let request_is = ap (λ (p : Answer). (asked_in p.0 (source, request)).1) h in
      ap (λ (p : Answer). (asked_in p.0 (source, request)).0) h ∙ ap (asking_source (source_in running)) (sym request_is);
  kept = ap (λ (p : Answer). p.1.kept) h ∙ is;
}

goes_by :
    (used writes : Bool) (plan : StorePlan) (running : AnySource) (store : StoreView) (rate : ℕ) (source : SourceView) (request : Terms) (after : StoreView) →
    ((source_in running).last == 4294967295) ≡ used → has_to_write (source_in running) rate ≡ writes → store.plan ≡ plan →
    ◌≡◌ {A = Answer} (Ok (source, request), after) (answer_by used writes plan running store rate) → Goes running store rate source request after
goes_by true writes plan running store rate source request after last does is h = absurd (let e = ap (λ (p : Answer). p.0) h in cc)
goes_by false true Works running store rate source request after last does is h =
    goes_parts running store rate source request store.kept after _ (grind (arith, nat_tests)) (λ e. is) (sym (cond-true _ _ _ does)) h
goes_by false true FailsBefore running store rate source request after last does is h = absurd (let e = ap (λ (p : Answer). p.0) h in cc)
goes_by false true FailsAfter running store rate source request after last does is h = absurd (let e = ap (λ (p : Answer). p.0) h in cc)
goes_by false false plan running store rate source request after last does is h =
    goes_parts running store rate source request store.kept after store (grind (arith, nat_tests)) (λ e. absurd (cc)) (sym (cond-false _ _ _ does)) h

pub goes :
    (running : AnySource) (store : StoreView) (rate : ℕ) (source : SourceView) (request : Terms) (after : StoreView) →
    (Ok (source, request), after) ≡ result_of_asking running store rate → Goes running store rate source request after
goes running store rate source request after h =
    goes_by ((source_in running).last == 4294967295) (has_to_write (source_in running) rate) store.plan running store rate source request after refl refl refl h

-- what holds when none goes out: numbers are used up, or the write failed, and was kept or not
pub data Stays : (running : AnySource) (store : StoreView) (rate : ℕ) (after : StoreView) (fault : AskFault) → Type 0 where
  Exhausted : {running : AnySource} {store after : StoreView} {rate : ℕ} {fault : AskFault} →
      (source_in running).last ≡ 4294967295 → fault ≡ SeqExhausted → after.kept ≡ store.kept → Stays running store rate after fault
  Unkept : {running : AnySource} {store after : StoreView} {rate : ℕ} {fault : AskFault} →
      (source_in running).last ≢ 4294967295 → has_to_write (source_in running) rate ≡ true → fault ≡ Keep → store.plan ≡ FailsBefore → after.kept ≡ store.kept →
      Stays running store rate after fault
  Kept : {running : AnySource} {store after : StoreView} {rate : ℕ} {fault : AskFault} →
      (source_in running).last ≢ 4294967295 → has_to_write (source_in running) rate ≡ true → fault ≡ Keep → store.plan ≡ FailsAfter →
      after.kept ≡ record_to_write (source_in running) rate → Stays running store rate after fault

stays_by :
    (used writes : Bool) (plan : StorePlan) (running same : AnySource) (store : StoreView) (rate : ℕ) (fault : AskFault) (after : StoreView) →
    ((source_in running).last == 4294967295) ≡ used → has_to_write (source_in running) rate ≡ writes → store.plan ≡ plan →
    ◌≡◌ {A = Answer} (Err (same, fault), after) (answer_by used writes plan running store rate) →
    (same ≡ running) × Stays running store rate after fault
stays_by true writes plan running same store rate fault after last does is h =
    (ap (λ (p : Answer). (refused_in p.0 (same, fault)).0) h, Exhausted (grind (arith, nat_tests)) (ap (λ (p : Answer). (refused_in p.0 (same, fault)).1) h) (ap (λ (p : Answer). p.1.kept) h))
stays_by false true Works running same store rate fault after last does is h = absurd (let e = ap (λ (p : Answer). p.0) h in cc)
stays_by false true FailsBefore running same store rate fault after last does is h =
    (ap (λ (p : Answer). (refused_in p.0 (same, fault)).0) h, Unkept (grind (arith, nat_tests)) does (ap (λ (p : Answer). (refused_in p.0 (same, fault)).1) h) is (ap (λ (p : Answer). p.1.kept) h))
stays_by false true FailsAfter running same store rate fault after last does is h =
    (ap (λ (p : Answer). (refused_in p.0 (same, fault)).0) h, Kept (grind (arith, nat_tests)) does (ap (λ (p : Answer). (refused_in p.0 (same, fault)).1) h) is (ap (λ (p : Answer). p.1.kept) h))
stays_by false false plan running same store rate fault after last does is h = absurd (let e = ap (λ (p : Answer). p.0) h in cc)

pub stays :
    (running same : AnySource) (store : StoreView) (rate : ℕ) (fault : AskFault) (after : StoreView) →
    (Err (same, fault), after) ≡ result_of_asking running store rate → (same ≡ running) × Stays running store rate after fault
stays running same store rate fault after h =
    stays_by ((source_in running).last == 4294967295) (has_to_write (source_in running) rate) store.plan running same store rate fault after refl refl refl h

-- a refusal for the store's sake comes of a write
pub written_some : (running : AnySource) (store after : StoreView) (rate : ℕ) (fault : AskFault) (written : Option KeptRecord) → Stays running store rate after fault →
    written ≡ (if has_to_write (source_in running) rate then Some (record_to_write (source_in running) rate) else None) → fault ≡ Keep → IsSome written
written_some running store after rate fault written (Exhausted none f number) is keep = absurd (cc)
written_some running store after rate fault written (Unkept some does f p number) is keep = rw (is ∙ cond-true _ _ _ does) refl
written_some running store after rate fault written (Kept some does f p number) is keep = rw (is ∙ cond-true _ _ _ does) refl

-- what an ask writes by the view of the facts is what it writes by the facts
pub written_by_facts : (vc : Channel) (facts : List Fact) (s : SourceView) (rate : ℕ) (written : Option KeptRecord) → s ≡ view_of vc facts →
    written ≡ (if has_to_write s rate then Some (record_to_write s rate) else None) →
    written ≡ (if writes facts rate then Some (written_for facts rate) else None)
written_by_facts vc facts s rate written view is =
    is ∙ ap (λ (v : SourceView). if has_to_write v rate then Some (record_to_write v rate) else None) view
    ∙ ap (λ (b : Bool). if b then Some (record_to_write (view_of vc facts) rate) else None) (writes_is vc facts rate)
    ∙ ap (λ (r : KeptRecord). if writes facts rate then Some r else None) (written_is vc facts rate)

abbrev Fitting : (plan : StorePlan) (writes : Bool) → Type 0
Fitting plan writes = writes ≡ true → plan ≡ Works

goes_kept : (b : Bool) (plan : StorePlan) (request : Terms) → Fitting plan b → kept_answer b plan request ≡ Asked request
goes_kept true plan request works = ap (λ (p : StorePlan). kept_answer true p request) (works refl)
goes_kept false plan request works = refl

answered : (vc : Channel) (facts : List Fact) (rate : ℕ) (plan : StorePlan) → last_of facts ≢ 4294967295 → Fitting plan (writes facts rate) →
    ask_answer vc facts rate plan ≡ Asked (next_request (view_of vc facts) rate)
answered vc facts rate plan left works =
    cond-false _ _ _ (ne_eqb (last_of facts) 4294967295 left) ∙ goes_kept (writes facts rate) plan (next_request (view_of vc facts) rate) works

exhausted : (vc : Channel) (facts : List Fact) (rate : ℕ) (plan : StorePlan) → last_of facts ≡ 4294967295 → ask_answer vc facts rate plan ≡ AskRefused SeqExhausted
exhausted vc facts rate plan none = cond-true _ _ _ (eq-eqb (last_of facts) 4294967295 none)

unkept : (vc : Channel) (facts : List Fact) (rate : ℕ) → last_of facts ≢ 4294967295 → writes facts rate ≡ true → ask_answer vc facts rate FailsBefore ≡ AskRefused Keep
unkept vc facts rate left does =
    cond-false _ _ _ (ne_eqb (last_of facts) 4294967295 left) ∙ ap (λ (b : Bool). kept_answer b FailsBefore (next_request (view_of vc facts) rate)) does

kept : (vc : Channel) (facts : List Fact) (rate : ℕ) → last_of facts ≢ 4294967295 → writes facts rate ≡ true → ask_answer vc facts rate FailsAfter ≡ AskRefused Keep
kept vc facts rate left does =
    cond-false _ _ _ (ne_eqb (last_of facts) 4294967295 left) ∙ ap (λ (b : Bool). kept_answer b FailsAfter (next_request (view_of vc facts) rate)) does

up_state : (vc : Channel) (facts : List Fact) (actor : ActorView) → actor ≡ actor_of vc facts → actor.state ≢ Down → state_of facts ≢ Down
up_state vc facts actor is up = subst (λ a. a.state ≢ Down) is up

-- what a source has to write is what the facts have it write
same_writes : (vc : Channel) (facts : List Fact) (s : SourceView) (rate : ℕ) → s ≡ view_of vc facts → has_to_write s rate ≡ writes facts rate
same_writes vc facts s rate view = ap (λ (v : SourceView). has_to_write v rate) view ∙ writes_is vc facts rate

same_written : (vc : Channel) (facts : List Fact) (s : SourceView) (rate : ℕ) → s ≡ view_of vc facts → record_to_write s rate ≡ written_for facts rate
same_written vc facts s rate view = ap (λ (v : SourceView). record_to_write v rate) view ∙ written_is vc facts rate

-- what an actor answers that sends a request
pub request_answered :
    (vc : Channel) (facts : List Fact) (actor : ActorView) (running : AnySource) (store after : StoreView) (rate : ℕ) (source : SourceView) (request : Terms) →
    actor ≡ actor_of vc facts → actor.state ≢ Down → source_in running ≡ actor.source → Goes running store rate source request after →
    Asked request ≡ command_answer vc facts (Ask rate store.plan)
request_answered vc facts actor running store after rate source request is up has goes =
    let view : source_in running ≡ view_of vc facts = has ∙ ap (λ a. a.source) is in
    let left : last_of facts ≢ 4294967295 = subst (λ (v : SourceView). v.last ≢ 4294967295) view goes.number_left in
    let works : Fitting store.plan (writes facts rate) = λ does. goes.works (same_writes vc facts (source_in running) rate view ∙ does) in
    ap Asked (goes.asked ∙ ap (λ v. next_request v rate) view)
    ∙ sym (up_answers (state_of facts) _ (up_state vc facts actor is up) ∙ answered vc facts rate store.plan left works)

-- what was written is what is stored then, and the rest stays
stored_after : (facts : List Fact) (seq floor ask mark : ℕ) (b : Bool) (kept : KeptRecord) →
    stored_of (FactAsked seq floor ask mark ∷ (write_adds b kept ++ facts)) ≡ (if b then kept else stored_of facts)
stored_after facts seq floor ask mark true kept = refl
stored_after facts seq floor ask mark false kept = refl

emitted_after : (facts : List Fact) (seq floor ask mark : ℕ) (b : Bool) (kept : KeptRecord) →
    emitted_of (FactAsked seq floor ask mark ∷ (write_adds b kept ++ facts)) ≡ emitted_of facts
emitted_after facts seq floor ask mark true kept = refl
emitted_after facts seq floor ask mark false kept = refl

clock_after : (facts : List Fact) (seq floor ask mark : ℕ) (b : Bool) (kept : KeptRecord) →
    clock_of (FactAsked seq floor ask mark ∷ (write_adds b kept ++ facts)) ≡ clock_of facts
clock_after facts seq floor ask mark true kept = refl
clock_after facts seq floor ask mark false kept = refl

stored_is : (vc : Channel) (facts : List Fact) (s : SourceView) (rate : ℕ) → s ≡ view_of vc facts → stored_by s rate ≡ write_adds (writes facts rate) (written_for facts rate)
stored_is vc facts s rate view =
    ap (λ (b : Bool). if b then Stored (record_to_write s rate) ∷ [] else []) (same_writes vc facts s rate view)
    ∙ ap (λ (r : KeptRecord). if writes facts rate then Stored r ∷ [] else []) (same_written vc facts s rate view)

-- what the source of an actor becomes that sends a request
pub request_after :
    (vc : Channel) (facts : List Fact) (actor : ActorView) (running : AnySource) (store after : StoreView) (rate : ℕ) (source : SourceView) (request : Terms) →
    actor ≡ actor_of vc facts → source_in running ≡ actor.source → store.kept ≡ actor.kept → Goes running store rate source request after →
    StandsFor (FactAsked request.seq request.floor request.ask (emitted_of facts) ∷ (stored_by (source_in running) rate ++ facts)) (Asking request.seq) source →
    record { source = source; state = Asking source.last; kept = after.kept; cells = actor.cells; clock = actor.clock }
    ≡ actor_of vc (FactAsked request.seq request.floor request.ask (emitted_of facts) ∷ (write_adds (writes facts rate) (written_for facts rate) ++ facts))
request_after vc facts actor running store after rate source request is has held goes stands =
    let view : source_in running ≡ view_of vc facts = has ∙ ap (λ a. a.source) is in
    let added = write_adds (writes facts rate) (written_for facts rate) in
    let facts' = FactAsked request.seq request.floor request.ask (emitted_of facts) ∷ (added ++ facts) in
    let stands' : StandsFor facts' (Asking request.seq) source =
    subst (λ (l : List Fact). StandsFor (FactAsked request.seq request.floor request.ask (emitted_of facts) ∷ (l ++ facts)) (Asking request.seq) source)
    (stored_is vc facts (source_in running) rate view) stands in
    let last : source.last ≡ request.seq = ap (λ (s : SourceView). s.last) goes.waits in
    let same : source.vc ≡ vc = ap (λ (s : SourceView). s.vc) goes.waits ∙ ap (λ (v : SourceView). v.vc) view in
    let now : source ≡ view_of vc facts' = stands'.view_is ∙ ap (λ v. view_of v facts') same in
    let state : Asking source.last ≡ state_of facts' = ap Asking last ∙ stands'.state_is in
    let cells : actor.cells ≡ emitted_of facts' = ap (λ a. a.cells) is ∙ sym (emitted_after facts request.seq request.floor request.ask (emitted_of facts) (writes facts rate) (written_for facts rate)) in
    let clock : actor.clock ≡ clock_of facts' = ap (λ a. a.clock) is ∙ sym (clock_after facts request.seq request.floor request.ask (emitted_of facts) (writes facts rate) (written_for facts rate)) in
    let kept : after.kept ≡ stored_of facts' =
    goes.kept ∙ ap (λ (b : Bool). if b then record_to_write (source_in running) rate else store.kept) (same_writes vc facts (source_in running) rate view)
    ∙ ap (λ (r : KeptRecord). if writes facts rate then r else store.kept) (same_written vc facts (source_in running) rate view)
    ∙ ap (λ (r : KeptRecord). if writes facts rate then written_for facts rate else r) (held ∙ ap (λ a. a.kept) is)
    ∙ sym (stored_after facts request.seq request.floor request.ask (emitted_of facts) (writes facts rate) (written_for facts rate)) in
    cc

-- what an actor answers whose ask is refused
pub refusal_answered :
    (vc : Channel) (facts : List Fact) (actor : ActorView) (running : AnySource) (store after : StoreView) (rate : ℕ) (fault : AskFault) →
    actor ≡ actor_of vc facts → actor.state ≢ Down → source_in running ≡ actor.source → Stays running store rate after fault →
    AskRefused fault ≡ command_answer vc facts (Ask rate store.plan)
refusal_answered vc facts actor running store after rate fault is up has (Exhausted none f number) =
    let view : source_in running ≡ view_of vc facts = has ∙ ap (λ a. a.source) is in
    let last : last_of facts ≡ 4294967295 = subst (λ (v : SourceView). v.last ≡ 4294967295) view none in
    ap AskRefused f ∙ sym (up_answers (state_of facts) _ (up_state vc facts actor is up) ∙ exhausted vc facts rate store.plan last)
refusal_answered vc facts actor running store after rate fault is up has (Unkept some does f p number) =
    let view : source_in running ≡ view_of vc facts = has ∙ ap (λ a. a.source) is in
    let left : last_of facts ≢ 4294967295 = subst (λ (v : SourceView). v.last ≢ 4294967295) view some in
    let wrote : writes facts rate ≡ true = sym (same_writes vc facts (source_in running) rate view) ∙ does in
    ap AskRefused f ∙ sym (up_answers (state_of facts) _ (up_state vc facts actor is up) ∙ ap (ask_answer vc facts rate) p ∙ unkept vc facts rate left wrote)
refusal_answered vc facts actor running store after rate fault is up has (Kept some does f p number) =
    let view : source_in running ≡ view_of vc facts = has ∙ ap (λ a. a.source) is in
    let left : last_of facts ≢ 4294967295 = subst (λ (v : SourceView). v.last ≢ 4294967295) view some in
    let wrote : writes facts rate ≡ true = sym (same_writes vc facts (source_in running) rate view) ∙ does in
    ap AskRefused f ∙ sym (up_answers (state_of facts) _ (up_state vc facts actor is up) ∙ ap (ask_answer vc facts rate) p ∙ kept vc facts rate left wrote)

waiting_stored : (vc : Channel) (facts : List Fact) (kept : KeptRecord) (state : SourceState) → waiting_in vc facts state ≡ waiting_in vc (Stored kept ∷ facts) state
waiting_stored vc facts kept Down = refl
waiting_stored vc facts kept Idle = refl
waiting_stored vc facts kept (Asking seq) = refl

with_kept : (vc : Channel) (facts : List Fact) (actor : ActorView) (kept : KeptRecord) → actor ≡ actor_of vc facts → record actor { kept = kept } ≡ record (actor_of vc facts) { kept = kept }
with_kept vc facts actor kept is = ap {A = ActorView} {B = ActorView} (λ a. record a { kept = kept }) is

same_but_kept : (vc : Channel) (facts : List Fact) (actor : ActorView) (kept : KeptRecord) → actor ≡ actor_of vc facts → kept ≡ actor.kept → record actor { kept = kept } ≡ actor_of vc facts
same_but_kept vc facts actor kept is same = ap (λ n. record actor { kept = n }) same ∙ is

-- the view of a source leaves out what is stored
stored_only : (vc : Channel) (facts : List Fact) (actor : ActorView) (kept : KeptRecord) → actor ≡ actor_of vc facts → record actor { kept = kept } ≡ actor_of vc (Stored kept ∷ facts)
stored_only vc facts actor kept is =
    with_kept vc facts actor kept is
    ∙ ap (λ (w : Option Terms). record (actor_of vc facts) { kept = kept; source = record (view_of vc facts) { newest = w } }) (waiting_stored vc facts kept (state_of facts))

nothing_added : (facts : List Fact) (rate : ℕ) (plan : StorePlan) → command_adds facts (Ask rate plan) (AskRefused SeqExhausted) ≡ []
nothing_added facts rate Works = refl
nothing_added facts rate FailsBefore = refl
nothing_added facts rate FailsAfter = refl

-- what an actor becomes whose ask is refused
pub refusal_after :
    (vc : Channel) (facts : List Fact) (actor : ActorView) (running : AnySource) (store after : StoreView) (rate : ℕ) (fault : AskFault) →
    actor ≡ actor_of vc facts → source_in running ≡ actor.source → store.kept ≡ actor.kept → Stays running store rate after fault →
    record actor { kept = after.kept } ≡ actor_of vc (command_adds facts (Ask rate store.plan) (AskRefused fault) ++ facts)
refusal_after vc facts actor running store after rate fault is has held (Exhausted none f number) =
    rw f (rw (nothing_added facts rate store.plan) (same_but_kept vc facts actor after.kept is (number ∙ held)))
refusal_after vc facts actor running store after rate fault is has held (Unkept some does f p number) =
    rw f (rw p (same_but_kept vc facts actor after.kept is (number ∙ held)))
refusal_after vc facts actor running store after rate fault is has held (Kept some does f p number) =
    let view : source_in running ≡ view_of vc facts = has ∙ ap (λ a. a.source) is in
    let now_kept : after.kept ≡ written_for facts rate = number ∙ same_written vc facts (source_in running) rate view in
    rw f (rw p (ap (λ (r : KeptRecord). record actor { kept = r }) now_kept ∙ stored_only vc facts actor (written_for facts rate) is))
