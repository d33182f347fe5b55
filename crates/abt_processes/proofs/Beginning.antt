-- Live processes after a source begins, for the first time or again.
use Rattle.std.proofs.Common.{◌≡◌, ◌≢◌, inl, inr, ℕ, Bool, true, false, List, [], ◌∷◌, ◌++◌, refl, ap, sym, subst, ◌∙◌, Some, None, Option}
use Rattle.std.specs.Prelude.{fold, All}
use Rattle.std.proofs.lemmas.Bool.{cond-false, ne_eqb, false≢true}
use Rattle.std.proofs.lemmas.List.{append-nil, append_assoc}
use Rattle.std.proofs.lemmas.List.Sums.{fold-append}
use Rattle.abt_rate.specs.Limits.{number_max}
use Rattle.abt_rate.specs.Rate.{IsRate}
use Rattle.abt_cell.specs.Channel.{Channel}
use Rattle.abt_keep.specs.Record.{KeptRecord}
use Rattle.abt_keep.specs.declared.plan.StorePlan.{StorePlan}
use Rattle.abt_keep.specs.declared.plan.StorePlan.TheVariants.{FailsBefore, FailsAfter}
use Rattle.abt_net.specs.declared.conn.Conn.{Conn}
use Rattle.abt_net.specs.Topology.{Topology, IsWithinRules, conn_at}
use Rattle.abt_facts.specs.declared.fact.Fact.{Fact}
use Rattle.abt_facts.specs.declared.fact.Fact.TheVariants.{Stored, Crashed as FactCrashed}
use Rattle.abt_facts.specs.Cells.{emitted_of}
use Rattle.abt_facts.specs.Source.{SourceState, Down, Idle, Asking, clock_of, last_of, state_of, stored_of, writes, written_for}
use Rattle.abt_source.proofs.Asks.{writes_is, written_is}
use Rattle.abt_source.specs.declared.fault.AskFault.TheVariants.{Keep}
use Rattle.abt_model.specs.declared.command.SourceCommand.TheVariants as command
use Rattle.abt_model.specs.declared.event.Event.{Event}
use Rattle.abt_model.specs.declared.entry.SourceEntry.TheVariants.{Did}
use Rattle.abt_model.specs.declared.outcome.Outcome.{Outcome}
use Rattle.abt_model.specs.declared.outcome.Outcome.TheVariants.{AskRefused, Crashed}
use Rattle.abt_model.specs.Answers.{ask_answer, if_up, kept_answer, next_request, stored_answer}
use Rattle.abt_model.specs.Events.{AsksRate}
use Rattle.abt_model.specs.Past.{facts_of}
use Rattle.abt_actor.specs.Actor.{actor_of}
use Rattle.abt_actor.specs.Commands.{command_answer, event_of}
use Rattle.abt_weave.specs.Projections.{entries_on, past_of}
use Rattle.abt_weave.proofs.PortEvents.{some_same}
use Rattle.abt_processes.specs.Processes.{AccessLine, JournalLine, Alive, Dead, Processes}
use Rattle.abt_processes.specs.Journals.{Told, crash_lines, deeds_in, lines_of, open_lines, restart_lines, told_by, with_line}
use Rattle.abt_processes.specs.Actors.{IsAlike, begun}
use Rattle.abt_processes.specs.Moves.{SourceBegins}
use Rattle.abt_processes.specs.Events.{IsProcessOf, IsStored, is_up_in}
use Rattle.abt_processes.proofs.Members.{stay_only}
use Rattle.abt_processes.proofs.Doing.{become_stands, process_at}
use Rattle.abt_processes.proofs.Invariant.{Stands}
use Rattle.abt_processes.proofs.Leaving.{line_did}
use Rattle.abt_processes.proofs.Lines.{IsLineOf}
use Rattle.abt_processes.proofs.Own.{HasDone, IsBeside, beside_both, has_done, none_beside}
use Rattle.abt_processes.proofs.Telling.{deeds-append, lines-append, told-append}

-- Some events wrote these lines of a source, and left its cells, its clock and its access line.
pub record HasWritten (net : Topology) (earlier later : List Event) (c : ℕ) (conn : Conn) (lines : List JournalLine) : Type 0 where
  pub beside : IsBeside net earlier later c
  pub cells : emitted_of (facts_of c (past_of net later)) ≡ emitted_of (facts_of c (past_of net earlier))
  pub clock : clock_of (facts_of c (past_of net later)) ≡ clock_of (facts_of c (past_of net earlier))
  pub deeds : lines_of (entries_on net c later) ≡ lines_of (entries_on net c earlier) ++ lines
  pub line : (l : AccessLine) → IsLineOf conn.vc (facts_of c (past_of net earlier)) l → IsLineOf conn.vc (facts_of c (past_of net later)) l

nothing_written : (net : Topology) (earlier : List Event) (c : ℕ) (conn : Conn) → All AsksRate earlier → HasWritten net earlier earlier c conn []
nothing_written net earlier c conn rates = record {
  beside = none_beside net earlier c rates;
  cells = refl;
  clock = refl;
  deeds = sym (append-nil (lines_of (entries_on net c earlier)));
  line = λ l is. is;
}

-- The ask that was cut off is refused, and what the store has is what it left.
pub record HasSettled (net : Topology) (earlier : List Event) (c : ℕ) (conn : Conn) (stored : KeptRecord) (about : Option ℕ) : Type 0 where
  pub later : List Event
  pub written : HasWritten net earlier later c conn (open_lines about)
  pub kept : stored_of (facts_of c (past_of net later)) ≡ stored
  pub state : state_of (facts_of c (past_of net later)) ≡ state_of (facts_of c (past_of net earlier))

up_answers : (state : SourceState) (o : Outcome) → state ≢ Down → if_up state o ≡ o
up_answers Down o up = absurd (up refl)
up_answers Idle o up = refl
up_answers (Asking seq) o up = refl

refused : (vc : Channel) (facts : List Fact) (rate : ℕ) (plan : StorePlan) → state_of facts ≢ Down → last_of facts ≢ number_max → writes facts rate ≡ true → stored_answer plan (next_request vc facts rate) ≡ AskRefused Keep →
    command_answer vc facts (command.Ask rate plan) ≡ AskRefused Keep
refused vc facts rate plan up left wrote keeps =
    up_answers (state_of facts) (ask_answer vc facts rate plan) up
    ∙ cond-false _ _ _ (ne_eqb (last_of facts) number_max left)
    ∙ ap (λ (b : Bool). kept_answer b plan (next_request vc facts rate)) wrote
    ∙ keeps

settle : (net : Topology) (earlier : List Event) (c : ℕ) (conn : Conn) (rate : ℕ) (plan : StorePlan) (stored : KeptRecord) → All AsksRate earlier → conn_at net c ≡ Some conn → IsRate rate →
    AskRefused Keep ≡ command_answer conn.vc (facts_of c (past_of net earlier)) (command.Ask rate plan) →
    ((done : HasDone net earlier c (command.Ask rate plan) (AskRefused Keep)) → (facts : List Fact) → facts ≡ facts_of c (past_of net (event_of c (command.Ask rate plan) ∷ earlier)) →
    (emitted_of facts ≡ emitted_of (facts_of c (past_of net earlier))) × (clock_of facts ≡ clock_of (facts_of c (past_of net earlier))) × (stored_of facts ≡ stored) × (state_of facts ≡ state_of (facts_of c (past_of net earlier)))) →
    HasSettled net earlier c conn stored (Some rate)
settle net earlier c conn rate plan stored rates known is_rate answers leaves =
    let asked = command.Ask rate plan in
    let event = event_of c asked in
    let done = has_done net earlier c conn asked (AskRefused Keep) rates is_rate known tt answers in
    let left = leaves done (facts_of c (past_of net (event ∷ earlier))) refl in
    record {
      later = event ∷ earlier;
      written = record {
        beside = done.beside;
        cells = left.0;
        clock = left.1;
        deeds = ap lines_of done.entries ∙ lines-append (entries_on net c earlier) (Did event (AskRefused Keep) ∷ []);
        line = λ l is. line_did net earlier c conn asked (AskRefused Keep) l known answers done is;
      };
      kept = left.2;
      state = left.3;
    }

pub open_ask : (net : Topology) (earlier : List Event) (c : ℕ) (conn : Conn) (stored : KeptRecord) (about : Option ℕ) → All AsksRate earlier → conn_at net c ≡ Some conn → IsStored (actor_of conn.vc (facts_of c (past_of net earlier))) stored about →
    HasSettled net earlier c conn stored about
open_ask net earlier c conn stored None rates known is = record { later = earlier; written = nothing_written net earlier c conn rates; kept = sym is; state = refl }
open_ask net earlier c conn stored (Some rate) rates known cut =
    let facts = facts_of c (past_of net earlier) in
    let vc = conn.vc in
    let wrote : writes facts rate ≡ true = sym (writes_is vc facts rate) ∙ cut.writes in
    elim cut.stored_is [
      | inl same ↦ settle net earlier c conn rate FailsBefore stored rates known cut.rate_is (sym (refused vc facts rate FailsBefore cut.up cut.number_left wrote refl)) (λ done others is. (
        let now : others ≡ facts = is ∙ done.facts in
            ap emitted_of now,
        let now : others ≡ facts = is ∙ done.facts in ap clock_of now,
        let now : others ≡ facts = is ∙ done.facts in ap stored_of now ∙ sym same,
        let now : others ≡ facts = is ∙ done.facts in ap state_of now,
      ))
      | inr new ↦ settle net earlier c conn rate FailsAfter stored rates known cut.rate_is (sym (refused vc facts rate FailsAfter cut.up cut.number_left wrote refl)) (λ done others is. (
        let now : others ≡ Stored (written_for facts rate) ∷ facts = is ∙ done.facts in
            ap emitted_of now,
        let now : others ≡ Stored (written_for facts rate) ∷ facts = is ∙ done.facts in ap clock_of now,
        let now : others ≡ Stored (written_for facts rate) ∷ facts = is ∙ done.facts in ap stored_of now ∙ sym (new ∙ written_is vc facts rate),
        let now : others ≡ Stored (written_for facts rate) ∷ facts = is ∙ done.facts in ap state_of now,
      ))
    ]

-- The source is down, and has its record.
pub record HasEnded (net : Topology) (earlier : List Event) (c : ℕ) (conn : Conn) (up : Bool) : Type 0 where
  pub later : List Event
  pub written : HasWritten net earlier later c conn (crash_lines c up)
  pub kept : stored_of (facts_of c (past_of net later)) ≡ stored_of (facts_of c (past_of net earlier))
  pub down : state_of (facts_of c (past_of net later)) ≡ Down

up_not_down : (state : SourceState) → true ≡ is_up_in state → state ≢ Down
up_not_down state is same = false≢true (ap is_up_in (sym same) ∙ sym is)

is_down : (state : SourceState) → false ≡ is_up_in state → state ≡ Down
is_down Down is = refl
is_down Idle is = absurd (false≢true is)
is_down (Asking seq) is = absurd (false≢true is)

pub crash_or_not : (net : Topology) (earlier : List Event) (c : ℕ) (conn : Conn) (up : Bool) → All AsksRate earlier → conn_at net c ≡ Some conn → up ≡ is_up_in (state_of (facts_of c (past_of net earlier))) → HasEnded net earlier c conn up
crash_or_not net earlier c conn false rates known is = record { later = earlier; written = nothing_written net earlier c conn rates; kept = refl; down = is_down _ is }
crash_or_not net earlier c conn true rates known is =
    let facts = facts_of c (past_of net earlier) in
    let event = event_of c command.Crash in
    let answers : Crashed ≡ command_answer conn.vc facts command.Crash = sym (up_answers (state_of facts) Crashed (up_not_down (state_of facts) is)) in
    let done = has_done net earlier c conn command.Crash Crashed rates tt known tt answers in
    let now : facts_of c (past_of net (event ∷ earlier)) ≡ FactCrashed ∷ facts = done.facts in
    record {
      later = event ∷ earlier;
      written = record {
        beside = done.beside;
        cells = ap emitted_of now;
        clock = ap clock_of now;
        deeds = ap lines_of done.entries ∙ lines-append (entries_on net c earlier) (Did event Crashed ∷ []);
        line = λ l is. line_did net earlier c conn command.Crash Crashed l known answers done is;
      };
      kept = ap stored_of now;
      down = ap state_of now;
    }

-- both, one after the other
written_both : (net : Topology) (earlier mid later : List Event) (c : ℕ) (conn : Conn) (first second : List JournalLine) → HasWritten net earlier mid c conn first → HasWritten net mid later c conn second → HasWritten net earlier later c conn (first ++ second)
written_both net earlier mid later c conn first second one two = record {
  beside = beside_both net earlier mid later c one.beside two.beside;
  cells = two.cells ∙ one.cells;
  clock = two.clock ∙ one.clock;
  deeds = two.deeds ∙ ap (λ (l : List JournalLine). l ++ second) one.deeds ∙ append_assoc (lines_of (entries_on net c earlier)) first second;
  line = λ l is. two.line l (one.line l is);
}

-- What a process that begins again writes of the one before tells of a source that is down, and has its deeds.
crash_tells : (told : Told) (c : ℕ) (up : Bool) → (fold with_line told (crash_lines c up)).cells ≡ told.cells
crash_tells told c true = refl
crash_tells told c false = refl

crash_clock : (told : Told) (c : ℕ) (up : Bool) → (fold with_line told (crash_lines c up)).clock ≡ told.clock
crash_clock told c true = refl
crash_clock told c false = refl

crash_up : (told : Told) (c : ℕ) (up : Bool) → up ≡ told.is_up → (fold with_line told (crash_lines c up)).is_up ≡ false
crash_up told c true is = refl
crash_up told c false is = sym is

crash_about : (told : Told) (c : ℕ) (up : Bool) → told.about ≡ None → (fold with_line told (crash_lines c up)).about ≡ None
crash_about told c true is = refl
crash_about told c false is = is

crash_deeds : (c : ℕ) (up : Bool) → deeds_in (crash_lines c up) ≡ crash_lines c up
crash_deeds c true = refl
crash_deeds c false = refl

open_deeds : (about : Option ℕ) → deeds_in (open_lines about) ≡ open_lines about
open_deeds None = refl
open_deeds (Some rate) = refl

-- what it tells once what is left open is written: the same, and nothing is about to be written
pub record IsSettled (told new : Told) : Type 0 where
  pub cells : new.cells ≡ told.cells
  pub clock : new.clock ≡ told.clock
  pub is_up : new.is_up ≡ told.is_up
  pub about : new.about ≡ None

open_tells : (told : Told) (about : Option ℕ) → about ≡ told.about → IsSettled told (fold with_line told (open_lines about))
open_tells told None is = record { cells = refl; clock = refl; is_up = refl; about = sym is }
open_tells told (Some rate) is = record { cells = refl; clock = refl; is_up = refl; about = refl }

pub record TellsDown (told new : Told) : Type 0 where
  pub cells : new.cells ≡ told.cells
  pub clock : new.clock ≡ told.clock
  pub is_up : new.is_up ≡ false
  pub about : new.about ≡ None

restart_tells : (c : ℕ) (journal : List JournalLine) → TellsDown (told_by journal) (told_by (journal ++ restart_lines c (told_by journal)))
restart_tells c journal =
    let told = told_by journal in
    let mid = fold with_line told (open_lines told.about) in
    let settled = open_tells told told.about refl in
    let all : told_by (journal ++ restart_lines c told) ≡ fold with_line mid (crash_lines c told.is_up) =
    told-append journal (restart_lines c told) ∙ fold-append with_line told (open_lines told.about) (crash_lines c told.is_up) in
    subst (TellsDown told) (sym all) (record {
      cells = crash_tells mid c told.is_up ∙ settled.cells;
      clock = crash_clock mid c told.is_up ∙ settled.clock;
      is_up = crash_up mid c told.is_up (sym settled.is_up);
      about = crash_about mid c told.is_up settled.about;
    })

restart_deeds : (c : ℕ) (journal : List JournalLine) → deeds_in (journal ++ restart_lines c (told_by journal)) ≡ deeds_in journal ++ restart_lines c (told_by journal)
restart_deeds c journal =
    let told = told_by journal in
    deeds-append journal (restart_lines c told)
    ∙ ap (λ (l : List JournalLine). deeds_in journal ++ l) (deeds-append (open_lines told.about) (crash_lines c told.is_up))
    ∙ ap (λ (l : List JournalLine). deeds_in journal ++ (l ++ deeds_in (crash_lines c told.is_up))) (open_deeds told.about)
    ∙ ap (λ (l : List JournalLine). deeds_in journal ++ (open_lines told.about ++ l)) (crash_deeds c told.is_up)

pub start_moves : (net : Topology) → IsWithinRules net → (earlier : List Event) (old new : Processes) → Stands net earlier old → SourceBegins net old new → (later : List Event) × Stands net later new
start_moves net rules earlier old new is move =
    let c = move.c in
    let conn = move.conn in
    let journal = (old.sources c).journal in
    let told = told_by journal in
    let had = process_at net earlier old c conn (Dead move.stored) is move.known move.dead in
    let settled = open_ask net earlier c conn move.stored told.about is.events.rates move.known had.1 in
    let mid = settled.later in
    let up : told.is_up ≡ is_up_in (state_of (facts_of c (past_of net mid))) = had.0.is_up ∙ ap is_up_in (sym settled.state) in
    let ended = crash_or_not net mid c conn told.is_up settled.written.beside.rates move.known up in
    let later = ended.later in
    let facts = facts_of c (past_of net later) in
    let both = written_both net earlier mid later c conn (open_lines told.about) (crash_lines c told.is_up) settled.written ended.written in
    let mine = begun conn.vc move.stored told.cells told.clock in
    let alike : IsAlike (actor_of conn.vc facts) mine = record {
      channel = refl;
      state = sym ended.down;
      kept = sym (ended.kept ∙ settled.kept);
      cells = had.0.cells ∙ sym both.cells;
      clock = had.0.clock ∙ sym both.clock;
      source = λ up. absurd (up ended.down);
    } in
    let tells = restart_tells c journal in
    let more = told_by (journal ++ restart_lines c told) in
    let whole : IsProcessOf (actor_of conn.vc facts) more (Alive mine) = (
      record { cells = tells.cells ∙ had.0.cells ∙ sym both.cells; clock = tells.clock ∙ had.0.clock ∙ sym both.clock; is_up = tells.is_up ∙ ap is_up_in (sym ended.down) },
      alike,
      tells.about,
    ) in (
      later,
      become_stands net rules earlier later old new c (Alive mine) (journal ++ restart_lines c told) (old.lines c) is both.beside move.becomes (stay_only c old.lines new.lines move.lines) (record {
        source_is = record {
          deeds = both.deeds ∙ ap (λ (l : List JournalLine). l ++ restart_lines c told) (is.events.sources c).deeds ∙ sym (restart_deeds c journal);
          process = λ other known. subst (λ (k : Conn). IsProcessOf (actor_of k.vc facts) more (Alive mine)) (some_same (sym move.known ∙ known)) whole;
        };
        line_is = λ other known. subst (λ (k : Conn). IsLineOf k.vc facts (old.lines c)) (some_same (sym move.known ∙ known)) (both.line (old.lines c) (is.lines c conn move.known));
      }),
    )
