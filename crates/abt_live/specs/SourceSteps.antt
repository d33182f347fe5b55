-- The steps of a source over lines (docs/LIVE.md, "A source").
use Rattle.std.specs.Prelude.{◌≡◌, ◌≢◌, ◌⊎◌, ℕ, [], Option}
use Rattle.std.specs.Io.KnownBytes.{Appends}
use Rattle.abt_text.specs.Text.{Text, ◌⋅◌}
use Rattle.abt_cell.specs.Channel.{Channel}
use Rattle.abt_model.specs.declared.command.SourceCommand.{SourceCommand}
use Rattle.abt_model.specs.declared.command.SourceCommand.TheVariants as command
use Rattle.abt_model.specs.declared.outcome.Outcome.{Outcome}
use Rattle.abt_actor.specs.Actor.{ActorView, CarriesOut}
use Rattle.abt_lines.specs.Runs.{Steps}
use Rattle.abt_lines.specs.Served.{AppendsFront}
use Rattle.abt_live.specs.declared.fault.LiveFault.{LiveFault}
use Rattle.abt_live.specs.declared.fault.LiveFault.TheVariants.{Store, UnknownVc}
use Rattle.abt_live.specs.declared.source_asked.SourceAsked.{SourceAsked}
use Rattle.abt_live.specs.declared.source_asked.SourceAsked.TheVariants.{Start, Ask, Again, Emit, Told, Wrong}
use Rattle.abt_live.specs.declared.source_lines.SourceLines.{SourceLines}
use Rattle.abt_live.specs.Faults.{fault_line}
use Rattle.abt_live.specs.Source.{AsksBy, GoesOn}
use Rattle.abt_live.specs.SourceAsked.{asked_on}
use Rattle.abt_live.specs.SourceJournal.{before_line, done_line}
use Rattle.abt_live.specs.SourceSaid.{outcome_said}

-- A source carried a command out: by the facts of its connection, and if it is down by what outlives a process.
abbrev pub CarriesOn : ActorView → SourceCommand → Outcome → ActorView → Type 0
CarriesOn old command outcome new = CarriesOut old command outcome new × GoesOn old command outcome new

-- What was asked for was carried out, as the event of that name is, with this outcome. An answer is to the source's own connection.
abbrev pub Carries : Channel → SourceAsked → ActorView → Outcome → ActorView → Type 0
Carries vc (Start now) old outcome new = CarriesOn old (command.Start now) outcome new
Carries vc (Ask rate) old outcome new = AsksBy old rate outcome new
Carries vc Again old outcome new = CarriesOn old command.Again outcome new
Carries vc (Emit now) old outcome new = CarriesOn old (command.Emit now) outcome new
Carries vc (Told answer) old outcome new = (answer.terms.vc ≡ vc) × CarriesOn old (command.Told answer) outcome new
Carries vc (Wrong fault) old outcome new = ⊥

-- Why nothing was carried out: the line has a fault, the answer is another connection's, or the store gave no record at a start.
abbrev pub Refuses : Channel → SourceAsked → LiveFault → Type 0
Refuses vc (Wrong fault) why = why ≡ fault
Refuses vc (Told answer) why = (why ≡ UnknownVc) × (answer.terms.vc ≢ vc)
Refuses vc (Start now) why = why ≡ Store
Refuses vc other why = ⊥

-- what is left to be carried out: no line with a fault, and no answer of another connection
abbrev pub CanCarry : Channel → SourceAsked → Type 0
CanCarry vc (Wrong fault) = ⊥
CanCarry vc (Told answer) = answer.terms.vc ≡ vc
CanCarry vc other = Unit {0}

-- It was carried out: this is what the journal got before that, and after it, and what is said then.
pub record IsCarriedOut (conn : ℕ) (vc : Channel) (asked : SourceAsked) (old : ActorView) (said written : Text) (new : ActorView) : Type 0 where
  pub outcome : Outcome
  pub carries : Carries vc asked old outcome new
  pub lines : written ≡ before_line conn old asked ⋅ done_line conn asked outcome
  pub says : said ≡ outcome_said new.clock outcome

-- A line with a fault is answered by it. Nothing else happens.
pub record IsFaulty (vc : Channel) (asked : SourceAsked) (old : ActorView) (said written : Text) (new : ActorView) : Type 0 where
  pub fault : LiveFault
  pub why : Refuses vc asked fault
  pub says : said ≡ fault_line fault
  pub silent : written ≡ []
  pub same : new ≡ old

-- What was asked for is done, and what it writes is in the journal.
pub record Does {K J : Type 0} (contents : J → Option Text) (old : SourceLines K J) (asked : SourceAsked) (said : Text) (new : SourceLines K J) : Type 0 where
  pub written : Text
  pub done : IsCarriedOut old.conn old.vc asked old.source said written new.source ⊎ IsFaulty old.vc asked old.source said written new.source
  pub journal : Appends (contents old.journal) (contents new.journal) written
  pub conn : new.conn ≡ old.conn
  pub vc : new.vc ≡ old.vc

-- Nothing but the journal changed.
pub record IsSameBut {K J : Type 0} (old new : SourceLines K J) : Type 0 where
  pub conn : new.conn ≡ old.conn
  pub vc : new.vc ≡ old.vc
  pub source : new.source ≡ old.source

-- A source stopped before it did anything: the journal got a beginning of what is written before.
pub record StopsBefore {K J : Type 0} (contents : J → Option Text) (old : SourceLines K J) (asked : SourceAsked) (new : SourceLines K J) : Type 0 where
  pub same : new.source ≡ old.source
  pub began : AppendsFront (contents old.journal) (contents new.journal) (before_line old.conn old.source asked)

-- It stopped behind that: all that is written before is in the journal, and a beginning of what was done.
pub record StopsBehind {K J : Type 0} (contents : J → Option Text) (old : SourceLines K J) (asked : SourceAsked) (new : SourceLines K J) : Type 0 where
  pub outcome : Outcome
  pub carries : Carries old.vc asked old.source outcome new.source
  pub mid : Option Text
  pub before : Appends (contents old.journal) mid (before_line old.conn old.source asked)
  pub began : AppendsFront mid (contents new.journal) (done_line old.conn asked outcome)

-- the steps of a source
abbrev pub SourcesLine : {K J : Type 0} → (contents : J → Option Text) → Steps (SourceLines K J)
SourcesLine contents old number line said new = Does contents old (asked_on line) said new
