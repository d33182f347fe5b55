-- What a source's journal tells once one more line stands in it.
use Rattle.std.proofs.Common.{◌≡◌, ◌≢◌, ℕ, ◌+◌, Bool, true, false, List, [], ◌∷◌, ◌++◌, refl, ap, sym, ◌∙◌, None}
use Rattle.std.specs.Prelude.{fold, max}
use Rattle.std.proofs.lemmas.List.Sums.{fold-append}
use Rattle.abt_cell.specs.Channel.{Channel}
use Rattle.abt_cell.specs.Message.{Terms, Reply}
use Rattle.abt_keep.specs.Record.{KeptRecord}
use Rattle.abt_keep.specs.declared.plan.StorePlan.TheVariants.{FailsAfter}
use Rattle.abt_facts.specs.declared.fact.Fact.{Fact}
use Rattle.abt_facts.specs.Cells.{emitted_of}
use Rattle.abt_facts.specs.Source.{SourceState, Down, Idle, Asking, clock_of, state_of, writes, written_for}
use Rattle.abt_source.specs.declared.fault.AskFault.TheVariants.{Keep}
use Rattle.abt_model.specs.declared.command.SourceCommand.{SourceCommand}
use Rattle.abt_model.specs.declared.command.SourceCommand.TheVariants as command
use Rattle.abt_model.specs.declared.event.Event.{Event}
use Rattle.abt_model.specs.declared.event.Event.TheVariants.{Start, Ask, Crash, Emit}
use Rattle.abt_model.specs.declared.entry.SourceEntry.{SourceEntry}
use Rattle.abt_model.specs.declared.entry.SourceEntry.TheVariants.{Did, Sent, Arrived as ArrivedAt}
use Rattle.abt_model.specs.declared.outcome.Heard.{Heard}
use Rattle.abt_model.specs.declared.outcome.Heard.TheVariants.{Raised, Refused, Ignored}
use Rattle.abt_model.specs.declared.outcome.Outcome.{Outcome}
use Rattle.abt_model.specs.declared.outcome.Outcome.TheVariants.{Started, Asked, AskRefused, Crashed, Emitted, Told as HasTold}
use Rattle.abt_model.specs.Answers.{if_up}
use Rattle.abt_model.specs.Outcomes.{facts_added, write_adds}
use Rattle.abt_actor.specs.Actor.{ActorView, actor_of}
use Rattle.abt_actor.specs.Commands.{command_answer, event_of, heard_by}
use Rattle.abt_processes.specs.Processes.{JournalLine, About, Open, Deed}
use Rattle.abt_processes.specs.Journals.{Told, deeds_in, line_of, lines_of, nothing_told, told_by, with_deed, with_line}
use Rattle.abt_processes.specs.Sources.{AreAbouts}
use Rattle.abt_processes.specs.Events.{Tells, is_up_in}

-- lines, one after the other
pub lines-append : (xs ys : List SourceEntry) → lines_of (xs ++ ys) ≡ lines_of xs ++ lines_of ys
lines-append [] ys = refl
lines-append (Did event outcome ∷ xs) ys = ap (λ l. line_of event outcome ∷ l) (lines-append xs ys)
lines-append (Sent place ∷ xs) ys = lines-append xs ys
lines-append (ArrivedAt cell place ∷ xs) ys = lines-append xs ys

pub deeds-append : (xs ys : List JournalLine) → deeds_in (xs ++ ys) ≡ deeds_in xs ++ deeds_in ys
deeds-append [] ys = refl
deeds-append (About rate ∷ xs) ys = deeds-append xs ys
deeds-append (Open rate ∷ xs) ys = ap (λ l. Open rate ∷ l) (deeds-append xs ys)
deeds-append (Deed event outcome ∷ xs) ys = ap (λ l. Deed event outcome ∷ l) (deeds-append xs ys)

pub told-append : (xs ys : List JournalLine) → told_by (xs ++ ys) ≡ fold with_line (told_by xs) ys
told-append xs ys = fold-append with_line nothing_told xs ys

-- the line of a deed is one
pub deed_stays : (event : Event) (outcome : Outcome) → deeds_in (line_of event outcome ∷ []) ≡ line_of event outcome ∷ []
deed_stays (Ask c rate plan) (AskRefused Keep) = refl
deed_stays event outcome = refl

-- lines of what is about to be done tell nothing else
pub abouts_no_deeds : (lines : List JournalLine) → AreAbouts lines → deeds_in lines ≡ []
abouts_no_deeds [] all = refl
abouts_no_deeds (About rate ∷ lines) all = abouts_no_deeds lines all
abouts_no_deeds (Open rate ∷ lines) all = absurd all
abouts_no_deeds (Deed event outcome ∷ lines) all = absurd all

pub abouts_tell : (actor : ActorView) (told : Told) (lines : List JournalLine) → AreAbouts lines → Tells actor told → Tells actor (fold with_line told lines)
abouts_tell actor told [] all is = is
abouts_tell actor told (About rate ∷ lines) all is = abouts_tell actor (with_line told (About rate)) lines all (record { cells = is.cells; clock = is.clock; is_up = is.is_up })
abouts_tell actor told (Open rate ∷ lines) all is = absurd all
abouts_tell actor told (Deed event outcome ∷ lines) all is = absurd all

-- behind a deed nothing is about to be written
deed_about : (told : Told) (event : Event) (outcome : Outcome) → (with_deed told event outcome).about ≡ told.about
deed_about told (Start c now) Started = refl
deed_about told (Start c now) other = refl
deed_about told (Emit c now) (Emitted cell next) = refl
deed_about told (Emit c now) other = refl
deed_about told (Crash c) Crashed = refl
deed_about told (Crash c) other = refl
deed_about told other outcome = refl

pub line_about : (told : Told) (event : Event) (outcome : Outcome) → (with_line told (line_of event outcome)).about ≡ None
line_about told (Ask c rate plan) (AskRefused Keep) = refl
line_about told (Ask c rate plan) other = deed_about (record told { about = None }) (Ask c rate plan) other
line_about told event outcome = deed_about (record told { about = None }) event outcome

-- who sends a request, or hears an answer, is up
asked_up : (state : SourceState) (o : Outcome) (request : Terms) → Asked request ≡ if_up state o → is_up_in state ≡ true
asked_up Down o request is = absurd (cc)
asked_up Idle o request is = refl
asked_up (Asking seq) o request is = refl

heard_up : (vc : Channel) (facts : List Fact) (state : SourceState) (answer : Reply) (heard : Heard) → heard ≢ Ignored → heard ≡ heard_by vc facts state answer → is_up_in state ≡ true
heard_up vc facts Down answer heard some is = absurd (some is)
heard_up vc facts Idle answer heard some is = refl
heard_up vc facts (Asking seq) answer heard some is = refl

emitted_stored : (b : Bool) (kept : KeptRecord) (facts : List Fact) → emitted_of (write_adds b kept ++ facts) ≡ emitted_of facts
emitted_stored true kept facts = refl
emitted_stored false kept facts = refl

clock_stored : (b : Bool) (kept : KeptRecord) (facts : List Fact) → clock_of (write_adds b kept ++ facts) ≡ clock_of facts
clock_stored true kept facts = refl
clock_stored false kept facts = refl

-- a deed tells what it does to its source
pub tells_did : (vc : Channel) (c : ℕ) (facts : List Fact) (command : SourceCommand) (outcome : Outcome) (told : Told) → outcome ≡ command_answer vc facts command → Tells (actor_of vc facts) told →
    Tells (actor_of vc (facts_added facts (event_of c command) outcome ++ facts)) (with_line told (line_of (event_of c command) outcome))
tells_did vc c facts (command.Start now) Started told is tells = record { cells = tells.cells; clock = ap (λ (n : ℕ). max now n) tells.clock; is_up = refl }
tells_did vc c facts (command.Start now) other told is tells = record { cells = tells.cells; clock = tells.clock; is_up = tells.is_up }
tells_did vc c facts (command.Ask rate plan) (Asked request) told is tells = record {
  cells = tells.cells ∙ sym (emitted_stored (writes facts rate) (written_for facts rate) facts);
  clock = tells.clock ∙ sym (clock_stored (writes facts rate) (written_for facts rate) facts);
  is_up = tells.is_up ∙ asked_up (state_of facts) _ request is;
}
tells_did vc c facts (command.Ask rate FailsAfter) (AskRefused Keep) told is tells = record { cells = tells.cells; clock = tells.clock; is_up = tells.is_up }
tells_did vc c facts (command.Ask rate plan) (AskRefused Keep) told is tells = record { cells = tells.cells; clock = tells.clock; is_up = tells.is_up }
tells_did vc c facts (command.Ask rate plan) other told is tells = record { cells = tells.cells; clock = tells.clock; is_up = tells.is_up }
tells_did vc c facts command.Again outcome told is tells = record { cells = tells.cells; clock = tells.clock; is_up = tells.is_up }
tells_did vc c facts command.Crash Crashed told is tells = record { cells = tells.cells; clock = tells.clock; is_up = refl }
tells_did vc c facts command.Crash other told is tells = record { cells = tells.cells; clock = tells.clock; is_up = tells.is_up }
tells_did vc c facts (command.Emit now) (Emitted cell next) told is tells = record { cells = ap (λ (n : ℕ). n + 1) tells.cells; clock = ap (λ (n : ℕ). max now n) tells.clock; is_up = tells.is_up }
tells_did vc c facts (command.Emit now) other told is tells = record { cells = tells.cells; clock = tells.clock; is_up = tells.is_up }
tells_did vc c facts (command.Told answer) (HasTold Raised) told is tells = record {
  cells = tells.cells;
  clock = tells.clock;
  is_up = tells.is_up ∙ heard_up vc facts (state_of facts) answer Raised (λ e. cc) (let same : HasTold Raised ≡ HasTold (heard_by vc facts (state_of facts) answer) = is in cc);
}
tells_did vc c facts (command.Told answer) (HasTold Refused) told is tells = record {
  cells = tells.cells;
  clock = tells.clock;
  is_up = tells.is_up ∙ heard_up vc facts (state_of facts) answer Refused (λ e. cc) (let same : HasTold Refused ≡ HasTold (heard_by vc facts (state_of facts) answer) = is in cc);
}
tells_did vc c facts (command.Told answer) other told is tells = record { cells = tells.cells; clock = tells.clock; is_up = tells.is_up }
