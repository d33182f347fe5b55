-- A step of a source over a line is a move of live processes.
use Rattle.std.proofs.Common.{◌≡◌, ◌≢◌, ◌⊎◌, inl, inr, ℕ, ◌+◌, ◌≤◌, Bool, true, false, List, [], ◌∷◌, ◌++◌, refl, ap, sym, subst, ◌∙◌, arith, Option, None}
use Rattle.std.specs.Prelude.{◌==◌, if◌then◌else◌, nat_lt}
use Rattle.std.proofs.lemmas.Bool.{cond-true, cond-false, cond_both, eq-eqb, ltb-false, ne_eqb}
use Rattle.std.proofs.lemmas.List.{append-nil, append_assoc}
use Rattle.std.specs.Io.KnownBytes.{Appends}
use Rattle.abt_rate.specs.Limits.{start_max}
use Rattle.abt_cell.specs.Channel.{Channel}
use Rattle.abt_net.specs.Topology.{Topology, conn_at}
use Rattle.abt_keep.specs.Record.{KeptRecord}
use Rattle.abt_keep.specs.declared.plan.StorePlan.{StorePlan}
use Rattle.abt_keep.specs.declared.plan.StorePlan.TheVariants.{Works}
use Rattle.abt_facts.specs.declared.fact.Fact.{Fact}
use Rattle.abt_facts.specs.Source.{SourceState, Down, Idle, Asking, clock_of, state_of, stored_of}
use Rattle.abt_source.specs.Calls.{started_source}
use Rattle.abt_source.specs.SourceFacts.{view_of}
use Rattle.abt_source.specs.SourceView.{SourceView}
use Rattle.abt_source.specs.declared.fault.AskFault.TheVariants.{Keep, SeqExhausted}
use Rattle.abt_source.specs.declared.fault.StartFault.TheVariants.{TimeRange}
use Rattle.abt_model.specs.Answers.{again_answer, ask_answer, emit_answer, if_up, start_answer}
use Rattle.abt_model.specs.declared.event.Event.TheVariants as event
use Rattle.abt_model.specs.declared.outcome.Cause.TheVariants.{ClockBack}
use Rattle.abt_journal.specs.declared.next_message.Next.{Next}
use Rattle.abt_model.specs.declared.command.SourceCommand.{SourceCommand}
use Rattle.abt_model.specs.declared.command.SourceCommand.TheVariants as command
use Rattle.abt_model.specs.declared.outcome.Outcome.{Outcome}
use Rattle.abt_model.specs.declared.outcome.Outcome.TheVariants.{Started, StartRefused, AskRefused, Crashed, NotEnabled, Told as HasTold}
use Rattle.abt_actor.specs.Actor.{ActorView, CarriesOut, actor_of}
use Rattle.abt_actor.specs.Commands.{command_adds, command_answer, event_of, heard_by}
use Rattle.abt_processes.specs.Actors.{Does as ActorDoes, IsAlike}
use Rattle.abt_processes.specs.Journals.{line_of}
use Rattle.abt_processes.specs.Lists.{OnlyAt}
use Rattle.abt_processes.specs.Processes.{AccessLine, Alive, JournalLine, About, Processes, SourceProcess}
use Rattle.abt_processes.specs.Sources.{AreAbouts, MayBeTold, with_left}
use Rattle.abt_live.specs.declared.source_asked.SourceAsked.{SourceAsked}
use Rattle.abt_live.specs.declared.source_asked.SourceAsked.TheVariants as asked
use Rattle.abt_live.specs.declared.source_lines.SourceLines.{SourceLines}
use Rattle.abt_live.specs.Source.{GoesOn, after_down, down_answer}
use Rattle.abt_live.specs.SourceJournal.{about_line, before_line, deed_line, done_line, writes_in}
use Rattle.abt_live.specs.SourceSteps.{Carries, Does, IsCarriedOut}
use Rattle.abt_live_laws.specs.Machine.{IsHandedIn, IsMove, IsProcessIn, SourcesMove, line_text, lines_text}

-- an actor that is alike and up is the same
alike_up : (one other : ActorView) → IsAlike one other → one.state ≢ Down → other ≡ one
alike_up one other alike up =
    let source = alike.source up in
    let state = alike.state in
    let kept = alike.kept in
    let cells = alike.cells in
    let clock = alike.clock in
    ap (λ (s : SourceView). (let a : ActorView = record { source = s; state = other.state; kept = other.kept; cells = other.cells; clock = other.clock } in a)) source
    ∙ ap (λ (s : SourceState). (let a : ActorView = record { source = one.source; state = s; kept = other.kept; cells = other.cells; clock = other.clock } in a)) state
    ∙ ap (λ (r : KeptRecord). (let a : ActorView = record { source = one.source; state = one.state; kept = r; cells = other.cells; clock = other.clock } in a)) kept
    ∙ ap (λ (n : ℕ). (let a : ActorView = record { source = one.source; state = one.state; kept = one.kept; cells = n; clock = other.clock } in a)) cells
    ∙ ap (λ (n : ℕ). (let a : ActorView = record { source = one.source; state = one.state; kept = one.kept; cells = one.cells; clock = n } in a)) clock

alike_itself : (one : ActorView) → IsAlike one one
alike_itself one = record { channel = refl; state = refl; kept = refl; cells = refl; clock = refl; source = λ up. refl }

is_down : (state : SourceState) → (state ≡ Down) ⊎ (state ≢ Down)
is_down Down = inl refl
is_down Idle = inr (λ e. cc)
is_down (Asking seq) = inr (λ e. cc)

-- what a source that is down answers at a clock
abbrev answer_at : ActorView → (clock : ℕ) → SourceCommand → Outcome
answer_at actor clock cmd = down_answer (record actor { clock = clock }) cmd

answers_at : (vc : Channel) (facts : List Fact) (actor : ActorView) (cmd : SourceCommand) → Down ≡ state_of facts → answer_at actor (clock_of facts) cmd ≡ command_answer vc facts cmd
answers_at vc facts actor (command.Start now) none = ap (λ s. start_answer s facts now) none
answers_at vc facts actor (command.Ask rate plan) none = ap (λ s. if_up s (ask_answer vc facts rate plan)) none
answers_at vc facts actor command.Again none = ap (λ s. again_answer vc s facts) none
answers_at vc facts actor command.Crash none = ap (λ s. if_up s Crashed) none
answers_at vc facts actor (command.Emit now) none = ap (λ s. if_up s (emit_answer facts now)) none
answers_at vc facts actor (command.Told answer) none = ap (λ s. HasTold (heard_by vc facts s answer)) none

-- it answers as the facts say
down_answers : (vc : Channel) (facts : List Fact) (actor : ActorView) (cmd : SourceCommand) → IsAlike (actor_of vc facts) actor → actor.state ≡ Down → down_answer actor cmd ≡ command_answer vc facts cmd
down_answers vc facts actor cmd alike down = subst (λ n. answer_at actor n cmd ≡ command_answer vc facts cmd) (sym alike.clock) (answers_at vc facts actor cmd (sym down ∙ alike.state))

-- a moment at which a start was taken isn't before the last one
started_late : (now clock : ℕ) → Started ≡ (if nat_lt now clock then NotEnabled ClockBack else (if nat_lt start_max now then StartRefused TimeRange else Started)) → clock ≤ now
started_late now clock = cond_both (nat_lt now clock) (NotEnabled ClockBack) (if nat_lt start_max now then StartRefused TimeRange else Started) (λ o. Started ≡ o → clock ≤ now) (λ early is. absurd (cc)) (λ late is. ltb-false now clock late)

-- it is what the facts then say
down_becomes : (vc : Channel) (facts : List Fact) (actor : ActorView) (cmd : SourceCommand) (outcome : Outcome) → IsAlike (actor_of vc facts) actor → actor.state ≡ Down → outcome ≡ down_answer actor cmd →
    IsAlike (actor_of vc (command_adds facts cmd outcome ++ facts)) (after_down actor cmd outcome)
down_becomes vc facts actor (command.Start now) Started alike down is =
    let late = started_late now actor.clock is in
    let clock = alike.clock in
    let kept = alike.kept in
    let started : started_source actor.source actor.kept now ≡ started_source (view_of vc facts) (stored_of facts) now =
    ap (λ (v : Channel). (let s : SourceView = record { vc = v; rate = 0; last = actor.kept.number; kept = actor.kept; gap = actor.kept.spacing; next = now + actor.kept.spacing; emitted = None; newest = None } in s)) alike.channel
    ∙ ap (λ (r : KeptRecord). (let s : SourceView = record { vc = vc; rate = 0; last = r.number; kept = r; gap = r.spacing; next = now + r.spacing; emitted = None; newest = None } in s)) kept in
    record {
      channel = alike.channel;
      state = refl;
      kept = kept;
      cells = alike.cells;
      clock = omega (arith, late, clock);
      source = λ up. started;
    }
down_becomes vc facts actor (command.Start now) other alike down is = alike
down_becomes vc facts actor (command.Ask rate plan) outcome alike down is = subst (λ o. IsAlike (actor_of vc (command_adds facts (command.Ask rate plan) o ++ facts)) actor) (sym is) alike
down_becomes vc facts actor command.Again outcome alike down is = alike
down_becomes vc facts actor command.Crash outcome alike down is = subst (λ o. IsAlike (actor_of vc (command_adds facts command.Crash o ++ facts)) actor) (sym is) alike
down_becomes vc facts actor (command.Emit now) outcome alike down is = subst (λ o. IsAlike (actor_of vc (command_adds facts (command.Emit now) o ++ facts)) actor) (sym is) alike
down_becomes vc facts actor (command.Told answer) outcome alike down is = subst (λ o. IsAlike (actor_of vc (command_adds facts (command.Told answer) o ++ facts)) actor) (sym is) alike

-- So an actor that carries a command out, up or down, does it.
pub does : (actor : ActorView) (cmd : SourceCommand) (outcome : Outcome) (after : ActorView) → CarriesOut actor cmd outcome after → GoesOn actor cmd outcome after → ActorDoes actor cmd outcome after
does actor cmd outcome after carries goes vc facts alike = elim (is_down actor.state) [
  | inl down ↦ (
      let answer = goes.answer down in (
        answer ∙ down_answers vc facts actor cmd alike down,
        subst (IsAlike (actor_of vc (command_adds facts cmd outcome ++ facts))) (sym (goes.becomes down)) (down_becomes vc facts actor cmd outcome alike down answer),
      ))
  | inr up ↦ (
      let same : actor ≡ actor_of vc facts = alike_up (actor_of vc facts) actor alike (λ e. up (alike.state ∙ e)) in
      let both = carries vc facts same in
      (both.0, subst (IsAlike (actor_of vc (command_adds facts cmd outcome ++ facts))) (sym both.1) (alike_itself (actor_of vc (command_adds facts cmd outcome ++ facts)))))
]

-- What a line asked for as a command, and its lines in the journal.
record IsCommand (conn : ℕ) (ask : SourceAsked) (old : ActorView) (outcome : Outcome) (new : ActorView) : Type 0 where
  cmd : SourceCommand
  may : (sent : List Next) → IsHandedIn sent conn ask → MayBeTold sent conn cmd outcome
  does_it : ActorDoes old cmd outcome new
  before : List JournalLine
  abouts : AreAbouts before
  begins : lines_text conn before ≡ before_line conn old ask
  ends : line_text conn (line_of (event_of conn cmd) outcome) ≡ done_line conn ask outcome

about_lines : (conn rate : ℕ) (b : Bool) → (before : List JournalLine) × AreAbouts before × (lines_text conn before ≡ (if b then about_line conn rate else []))
about_lines conn rate true = (About rate ∷ [], tt, append-nil (about_line conn rate))
about_lines conn rate false = ([], tt, refl)

done_asked : (conn rate : ℕ) (plan : StorePlan) (outcome : Outcome) → (outcome ≢ AskRefused Keep → plan ≡ Works) → line_text conn (line_of (event_of conn (command.Ask rate plan)) outcome) ≡ done_line conn (asked.Ask rate) outcome
done_asked conn rate plan (AskRefused Keep) works = refl
done_asked conn rate plan (AskRefused SeqExhausted) works = ap (λ p. deed_line conn (event.Ask conn rate p) (AskRefused SeqExhausted)) (works (λ e. cc))
done_asked conn rate plan other works = ap (λ p. deed_line conn (event.Ask conn rate p) other) (works (λ e. cc))

command_of : (conn : ℕ) (vc : Channel) (ask : SourceAsked) (old : ActorView) (outcome : Outcome) (new : ActorView) → Carries vc ask old outcome new → IsCommand conn ask old outcome new
command_of conn vc (asked.Start now) old outcome new is = record { cmd = command.Start now; may = λ sent handed. tt; does_it = does old (command.Start now) outcome new is.0 is.1; before = []; abouts = tt; begins = refl; ends = refl }
command_of conn vc (asked.Ask rate) old outcome new is =
    let abouts = about_lines conn rate (writes_in old.state old.source rate) in
    record {
      cmd = command.Ask rate is.plan;
      may = λ sent handed. (handed, is.works);
      does_it = does old (command.Ask rate is.plan) outcome new is.carries is.down;
      before = abouts.0;
      abouts = abouts.1;
      begins = abouts.2;
      ends = done_asked conn rate is.plan outcome is.works;
    }
command_of conn vc asked.Again old outcome new is = record { cmd = command.Again; may = λ sent handed. tt; does_it = does old command.Again outcome new is.0 is.1; before = []; abouts = tt; begins = refl; ends = refl }
command_of conn vc (asked.Emit now) old outcome new is = record { cmd = command.Emit now; may = λ sent handed. tt; does_it = does old (command.Emit now) outcome new is.0 is.1; before = []; abouts = tt; begins = refl; ends = refl }
command_of conn vc (asked.Told answer) old outcome new is = record { cmd = command.Told answer; may = λ sent handed. handed; does_it = does old (command.Told answer) outcome new is.1.0 is.1.1; before = []; abouts = tt; begins = refl; ends = refl }
command_of conn vc (asked.Wrong fault) old outcome new is = absurd is

-- families of which one changes
abbrev pub changed : {A : Type 0} → (n : ℕ) → (ℕ → A) → A → ℕ → A
changed n family value m = if m == n then value else family m

pub only_changed : {A : Type 0} (n : ℕ) (family : ℕ → A) (value : A) → OnlyAt n family (changed n family value) value
only_changed n family value = (cond-true _ _ _ (eq-eqb n n refl), λ m differ. cond-false _ _ _ (ne_eqb m n differ))

pub lines_text-append : (conn : ℕ) (xs ys : List JournalLine) → lines_text conn (xs ++ ys) ≡ lines_text conn xs ++ lines_text conn ys
lines_text-append conn [] ys = refl
lines_text-append conn (x ∷ xs) ys = ap (λ l. line_text conn x ++ l) (lines_text-append conn xs ys) ∙ sym (append_assoc (line_text conn x) (lines_text conn xs) (lines_text conn ys))

carried_moves : {K J : Type 0} (contents : J → Option (List ℕ)) (net : Topology) (before : Processes) (old new : SourceLines K J) (ask : SourceAsked) (said : List ℕ) → IsProcessIn net before old → IsHandedIn before.sent old.conn ask →
    (step : Does contents old ask said new) → IsCarriedOut old.conn old.vc ask old.source said step.written new.source → IsMove contents net before old new said
carried_moves contents net before old new ask said its handed step out =
    let c = old.conn in
    let outcome = out.outcome in
    let known = command_of c old.vc ask old.source outcome new.source out.carries in
    let x = line_of (event_of c known.cmd) outcome in
    let had = (before.sources c).journal in
    let source : SourceProcess = record { process = Alive new.source; journal = had ++ known.before ++ x ∷ [] } in
    let line : AccessLine = with_left (before.lines c) known.cmd outcome in
    let after : Processes = record { ports = before.ports; sources = changed c before.sources source; lines = changed c before.lines line; sent = before.sent } in
    let sources = only_changed c before.sources source in
    let text : lines_text c (known.before ++ x ∷ []) ≡ step.written =
    lines_text-append c known.before (x ∷ [])
    ∙ ap (λ l. lines_text c known.before ++ l) (append-nil (line_text c x))
    ∙ ap (λ l. l ++ line_text c x) known.begins
    ∙ ap (λ l. before_line c old.source ask ++ l) known.ends
    ∙ sym out.lines in
    record {
      after = after;
      move = record {
        c = c;
        conn = its.conn;
        known = its.known;
        actor = old.source;
        alive = its.alive;
        command = known.cmd;
        outcome = outcome;
        after = new.source;
        may = known.may before.sent handed;
        does = known.does_it;
        before = known.before;
        abouts = known.abouts;
        becomes = record { ports = λ p. refl; sources = sources; sent = refl };
        lines = only_changed c before.lines line;
      };
      its = refl;
      process = record {
        conn = its.conn;
        known = ap (conn_at net) step.conn ∙ its.known;
        channel = step.vc ∙ its.channel;
        alive = ap (λ n. (after.sources n).process) step.conn ∙ ap (λ (s : SourceProcess). s.process) sources.0;
      };
      lines = known.before ++ x ∷ [];
      journal = ap (λ (s : SourceProcess). s.journal) sources.0 ∙ append_assoc had known.before (x ∷ []);
      written = subst (Appends (contents old.journal) (contents new.journal)) (sym text) step.journal;
      says = out.says;
    }

pub sources_move : {J : Type 0} (K : Type 0) (contents : J → Option (List ℕ)) → SourcesMove K contents
sources_move K contents net before old new ask said its handed step = elim step.done [
  | inl out ↦ inl (carried_moves contents net before old new ask said its handed step out)
  | inr none ↦ inr (record { same = none.same; silent = subst (Appends (contents old.journal) (contents new.journal)) none.silent step.journal })
]
