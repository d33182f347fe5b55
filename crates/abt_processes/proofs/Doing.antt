-- Live processes after a deed of a source.
use Rattle.std.proofs.Common.{◌≡◌, ◌≢◌, ℕ, List, [], ◌∷◌, ◌++◌, refl, ap, sym, subst, ◌∙◌, Some}
use Rattle.std.specs.Prelude.{All, fold}
use Rattle.std.proofs.lemmas.List.{append-nil}
use Rattle.abt_net.specs.declared.conn.Conn.{Conn}
use Rattle.abt_net.specs.Topology.{Topology, IsWithinRules, conn_at}
use Rattle.abt_facts.specs.declared.fact.Fact.{Fact}
use Rattle.abt_model.specs.declared.command.SourceCommand.{SourceCommand}
use Rattle.abt_model.specs.declared.command.SourceCommand.TheVariants as command
use Rattle.abt_model.specs.declared.event.Event.{Event}
use Rattle.abt_model.specs.declared.entry.SourceEntry.TheVariants.{Did}
use Rattle.abt_model.specs.declared.outcome.Outcome.{Outcome}
use Rattle.abt_model.specs.Events.{AsksRate}
use Rattle.abt_model.specs.Past.{facts_of}
use Rattle.abt_actor.specs.Actor.{actor_of}
use Rattle.abt_actor.specs.Commands.{event_of}
use Rattle.abt_journal.specs.declared.entry.Entry.{Entry}
use Rattle.abt_journal.specs.declared.next_message.Next.{Next}
use Rattle.abt_journal.specs.declared.next_message.Next.TheVariants.{Tell}
use Rattle.abt_weave.specs.Projections.{entries_on, past_of}
use Rattle.abt_serving.specs.Followed.{IsLeft}
use Rattle.abt_processes.specs.Lists.{IsIn, OnlyAt}
use Rattle.abt_processes.specs.Processes.{AccessLine, JournalLine, Process, Alive, Processes, SourceProcess}
use Rattle.abt_processes.specs.Journals.{Told, deeds_in, line_of, lines_of, told_by, with_line}
use Rattle.abt_processes.specs.Actors.{IsAlike}
use Rattle.abt_processes.specs.Sources.{MayBeTold, with_left}
use Rattle.abt_processes.specs.Moves.{Becomes, SourceDoes}
use Rattle.abt_weave.proofs.PortEvents.{some_same}
use Rattle.abt_processes.specs.Safe.{IsFoundConforming}
use Rattle.abt_processes.specs.Events.{IsPortAfter, IsProcessOf, IsSourceAfter, Tells}
use Rattle.abt_processes.proofs.Members.{all_but_one, all_stay}
use Rattle.abt_processes.proofs.Lasting.{left_lasts}
use Rattle.abt_processes.proofs.Lines.{IsLineOf, line_still}
use Rattle.abt_weave.proofs.LineFacts.{line}
use Rattle.abt_processes.proofs.Invariant.{Stands}
use Rattle.abt_processes.proofs.Leaving.{line_did}
use Rattle.abt_processes.proofs.Own.{IsBeside, IsSaid, adds_same, has_done}
use Rattle.abt_processes.proofs.Ports.{port_same}
use Rattle.abt_processes.proofs.Quiet.{source_same}
use Rattle.abt_processes.proofs.Telling.{abouts_no_deeds, abouts_tell, deed_stays, deeds-append, line_about, lines-append, tells_did, told-append}

-- a source changed to this, with its access line, and events say so
pub record HasBecome (net : Topology) (later : List Event) (c : ℕ) (source : SourceProcess) (l : AccessLine) : Type 0 where
  pub source_is : IsSourceAfter net later c source
  pub line_is : (conn : Conn) → conn_at net c ≡ Some conn → IsLineOf conn.vc (facts_of c (past_of net later)) l

pub become_stands : (net : Topology) → IsWithinRules net → (earlier later : List Event) (old new : Processes) (c : ℕ) (process : Process) (journal : List JournalLine) (l : AccessLine) → Stands net earlier old → IsBeside net earlier later c → Becomes old new c process journal →
    OnlyAt c old.lines new.lines l → HasBecome net later c (record { process = process; journal = journal }) l → Stands net later new
become_stands net rules earlier later old new c process journal l is beside becomes lines has =
    let same : beside.more ++ earlier ≡ later = sym beside.is in
    let rates : All AsksRate (beside.more ++ earlier) = subst (All AsksRate) beside.is beside.rates in
    let other : (d : ℕ) → d ≢ c → IsSourceAfter net later d (old.sources d)
    = λ d differ. source_same net d earlier later [] (old.sources d) (beside.entries d differ ∙ sym (append-nil (entries_on net d earlier))) (λ facts. refl) (ap lines_of (append-nil (entries_on net d earlier))) (is.events.sources d) in
    let still : (d : ℕ) → d ≢ c → (conn : Conn) → conn_at net d ≡ Some conn → IsLineOf conn.vc (facts_of d (past_of net later)) (old.lines d)
    = λ d differ conn known. subst (λ (e : List Event). IsLineOf conn.vc (facts_of d (past_of net e)) (old.lines d)) same
    (line_still net beside.more earlier d conn (old.lines d) known rates (is.lines d conn known) (ap (λ (e : List Event). line (facts_of d (past_of net e))) same ∙ ap line (beside.facts d differ))) in
    record {
      events = record {
        rates = beside.rates;
        ports = all_stay (λ p port. IsPortAfter net later p port) old.ports new.ports becomes.ports (λ p. port_same net earlier later p (old.ports p) rules is.events.rates beside.rates (beside.steps p) (is.events.ports p));
        sources = all_but_one (λ d source. IsSourceAfter net later d source) c old.sources new.sources (record { process = process; journal = journal }) becomes.sources has.source_is other;
      };
      lines = all_but_one (λ d a. (conn : Conn) → conn_at net d ≡ Some conn → IsLineOf conn.vc (facts_of d (past_of net later)) a) c old.lines new.lines l lines has.line_is still;
      sent = λ n there. subst (λ (e : List Event). IsLeft net (past_of net e) n) same (left_lasts net beside.more earlier rates n (is.sent n (subst (IsIn n) becomes.sent there)));
      judged = all_stay (λ p port. (entry : Entry) → IsIn entry port.journal → IsFoundConforming entry.input entry.reply) old.ports new.ports becomes.ports is.judged;
    }

-- what a source may be told was sent to it, and asks for a rate
may_be_said : (net : Topology) (earlier : List Event) (old : Processes) (c : ℕ) (command : SourceCommand) (outcome : Outcome) → Stands net earlier old → MayBeTold old.sent c command outcome → IsSaid net (past_of net earlier) c command
may_be_said net earlier old c (command.Told answer) outcome is may = is.sent (Tell c answer) may
may_be_said net earlier old c other outcome is may = tt

may_ask : (sent : List Next) (c : ℕ) (command : SourceCommand) (outcome : Outcome) → MayBeTold sent c command outcome → AsksRate (event_of c command)
may_ask sent c (command.Ask rate plan) outcome may = may.0
may_ask sent c (command.Start now) outcome may = tt
may_ask sent c command.Again outcome may = tt
may_ask sent c command.Crash outcome may = tt
may_ask sent c (command.Emit now) outcome may = tt
may_ask sent c (command.Told answer) outcome may = tt

-- the process that a source had
pub process_at : (net : Topology) (earlier : List Event) (old : Processes) (c : ℕ) (conn : Conn) (process : Process) → Stands net earlier old → conn_at net c ≡ Some conn → (old.sources c).process ≡ process →
    IsProcessOf (actor_of conn.vc (facts_of c (past_of net earlier))) (told_by (old.sources c).journal) process
process_at net earlier old c conn process is known same = subst (IsProcessOf (actor_of conn.vc (facts_of c (past_of net earlier))) (told_by (old.sources c).journal)) same ((is.events.sources c).process conn known)

-- the lines of a journal that got one more deed
deeds_more : (net : Topology) (earlier later : List Event) (c : ℕ) (journal before : List JournalLine) (event : Event) (outcome : Outcome) → entries_on net c later ≡ entries_on net c earlier ++ Did event outcome ∷ [] → deeds_in before ≡ [] →
    lines_of (entries_on net c earlier) ≡ deeds_in journal → lines_of (entries_on net c later) ≡ deeds_in (journal ++ before ++ line_of event outcome ∷ [])
deeds_more net earlier later c journal before event outcome entries none is =
    ap lines_of entries ∙ lines-append (entries_on net c earlier) (Did event outcome ∷ [])
    ∙ ap (λ (l : List JournalLine). l ++ line_of event outcome ∷ []) (is ∙ sym (append-nil (deeds_in journal)) ∙ ap (λ (l : List JournalLine). deeds_in journal ++ l) (sym none) ∙ sym (deeds-append journal before))
    ∙ ap (λ (l : List JournalLine). deeds_in (journal ++ before) ++ l) (sym (deed_stays event outcome))
    ∙ sym (deeds-append (journal ++ before) (line_of event outcome ∷ []))

-- a journal that tells what it tells of lines
told_more : (journal before : List JournalLine) (x : JournalLine) → told_by (journal ++ before ++ x ∷ []) ≡ with_line (fold with_line (told_by journal) before) x
told_more journal before x = told-append (journal ++ before) (x ∷ []) ∙ ap (λ (t : Told). with_line t x) (told-append journal before)

pub source_moves : (net : Topology) → IsWithinRules net → (earlier : List Event) (old new : Processes) → Stands net earlier old → SourceDoes net old new → (later : List Event) × Stands net later new
source_moves net rules earlier old new is move =
    let c = move.c in
    let conn = move.conn in
    let event = event_of c move.command in
    let facts = facts_of c (past_of net earlier) in
    let journal = (old.sources c).journal in
    let later = event ∷ earlier in
    let had = process_at net earlier old c conn (Alive move.actor) is move.known move.alive in
    let does = move.does conn.vc facts had.1 in
    let done = has_done net earlier c conn move.command move.outcome is.events.rates (may_ask old.sent c move.command move.outcome move.may) move.known (may_be_said net earlier old c move.command move.outcome is move.may) does.0 in
    let x = line_of event move.outcome in
    let told = fold with_line (told_by journal) move.before in
    let told_is : told_by (journal ++ move.before ++ x ∷ []) ≡ with_line told x = told_more journal move.before x in
    let after : IsAlike (actor_of conn.vc (facts_of c (past_of net later))) move.after =
    subst (λ (l : List Fact). IsAlike (actor_of conn.vc l) move.after) (ap (λ (l : List Fact). l ++ facts) (adds_same facts c move.command move.outcome) ∙ sym done.facts) does.1 in
    let tells : Tells (actor_of conn.vc (facts_of c (past_of net later))) (with_line told x) =
    subst (λ (l : List Fact). Tells (actor_of conn.vc l) (with_line told x)) (sym done.facts) (tells_did conn.vc c facts move.command move.outcome told does.0 (abouts_tell (actor_of conn.vc facts) (told_by journal) move.before move.abouts had.0)) in
    let whole : IsProcessOf (actor_of conn.vc (facts_of c (past_of net later))) (told_by (journal ++ move.before ++ x ∷ [])) (Alive move.after) =
    subst (λ t. IsProcessOf (actor_of conn.vc (facts_of c (past_of net later))) t (Alive move.after)) (sym told_is) (tells, after, line_about told event move.outcome) in (
      later,
      become_stands net rules earlier later old new c (Alive move.after) (journal ++ move.before ++ x ∷ []) (with_left (old.lines c) move.command move.outcome) is done.beside move.becomes move.lines (record {
        source_is = record {
          deeds = deeds_more net earlier later c journal move.before event move.outcome done.entries (abouts_no_deeds move.before move.abouts) (is.events.sources c).deeds;
          process = λ other known. subst (λ (k : Conn). IsProcessOf (actor_of k.vc (facts_of c (past_of net later))) (told_by (journal ++ move.before ++ x ∷ [])) (Alive move.after)) (some_same (sym move.known ∙ known)) whole;
        };
        line_is = λ other known. subst (λ (k : Conn). IsLineOf k.vc (facts_of c (past_of net later)) (with_left (old.lines c) move.command move.outcome)) (some_same (sym move.known ∙ known))
            (line_did net earlier c conn move.command move.outcome (old.lines c) move.known does.0 done (is.lines c conn move.known));
      }),
    )
