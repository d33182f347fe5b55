-- The protocol's answer for an entry (docs/AUDITS.md, "What is told"): the reply of a port, or the outcome of a source,
-- in the state that the entries before it leave. Facts are those of one connection, the newest first.
use Rattle.std.specs.Prelude.{ℕ, ◌++◌, List, [], take, fold, Option, Some, None, option_map, option_and_then, slice_get, codes}
use Rattle.json.specs.Json.{Json}
use Rattle.abt_text.specs.Text.{Text, ◌⋅◌, newline}
use Rattle.abt_cell.specs.Channel.{Channel}
use Rattle.abt_net.specs.declared.conn.Conn.{Conn}
use Rattle.abt_net.specs.Topology.{Topology, conn_at}
use Rattle.abt_facts.specs.declared.fact.Fact.{Fact}
use Rattle.abt_facts.specs.Source.{state_of}
use Rattle.abt_model.specs.Answers.{if_up, start_answer, ask_answer, again_answer, emit_answer, told_answer}
use Rattle.abt_model.specs.Outcomes.{facts_added}
use Rattle.abt_model.specs.PortTable.{port_table}
use Rattle.abt_model.specs.Targets.{target_of, event_at_source}
use Rattle.abt_model.specs.declared.outcome.Outcome.{Outcome}
use Rattle.abt_model.specs.declared.outcome.Outcome.TheVariants.{Crashed, Told as HasTold}
use Rattle.abt_model.specs.declared.target.SourceEvent.{SourceEvent}
use Rattle.abt_model.specs.declared.target.SourceEvent.TheVariants.{Start, Ask, Again, Crash, Emit, Told}
use Rattle.abt_model.specs.declared.target.Target.{Target}
use Rattle.abt_model.specs.declared.target.Target.TheVariants as target
use Rattle.abt_journal.specs.declared.entry.Entry.{Entry}
use Rattle.abt_journal.specs.declared.input.PortReply.{PortReply}
use Rattle.abt_journal.specs.Replay.{reply_by, replay}
use Rattle.abt_model.specs.declared.entry.SourceEntry.{SourceEntry}
use Rattle.abt_model.specs.declared.entry.SourceEntry.TheVariants.{Did}
use Rattle.abt_model.specs.declared.journal.SourceJournal.{SourceJournal}
use Rattle.abt_entry.specs.EntryWritten.{reply_json, outcome_json}
use Rattle.abt_weave.specs.declared.actor.Actor.{Actor}
use Rattle.abt_weave.specs.declared.actor.Actor.TheVariants.{Source, Port}
use Rattle.abt_journal_text.specs.declared.run.Run.{Run}
use Rattle.abt_audit.specs.EntryObjects.{printed}

-- the reply of a port to the input of the entry of a place, after the inputs of the entries before
abbrev pub port_answer : Topology → (p : ℕ) → List Entry → (place : ℕ) → Option PortReply
port_answer net p entries place =
    option_map (λ (entry : Entry). reply_by (replay (port_table net [] p) (take place entries)) entry.input) (slice_get entries place)

-- the outcome of a source for an event; it hears an answer that came home by its number
abbrev pub own_answer : Channel → List Fact → SourceEvent → Outcome
own_answer vc facts (Start now) = start_answer (state_of facts) facts now
own_answer vc facts (Ask rate plan) = if_up (state_of facts) (ask_answer vc facts rate plan)
own_answer vc facts Again = again_answer vc (state_of facts) facts
own_answer vc facts Crash = if_up (state_of facts) Crashed
own_answer vc facts (Emit now) = if_up (state_of facts) (emit_answer facts now)
own_answer vc facts (Told seq granted) = HasTold (told_answer (state_of facts) seq granted)

-- its facts then
abbrev pub own_facts : Channel → List Fact → SourceEvent → List Fact
own_facts vc facts event = facts_added facts (event_at_source 0 event) (own_answer vc facts event) ++ facts

-- the facts of a source after an event, if it happens there, and after an entry
abbrev pub facts_at : Channel → List Fact → Target → List Fact
facts_at vc facts (target.Source c event) = own_facts vc facts event
facts_at vc facts other = facts

abbrev pub facts_past : Channel → List Fact → SourceEntry → List Fact
facts_past vc facts (Did event told) = facts_at vc facts (target_of event)
facts_past vc facts other = facts

abbrev pub answer_at : Channel → List Fact → Target → Option Outcome
answer_at vc facts (target.Source c event) = Some (own_answer vc facts event)
answer_at vc facts other = None

abbrev pub answer_in : Channel → List Fact → SourceEntry → Option Outcome
answer_in vc facts (Did event told) = answer_at vc facts (target_of event)
answer_in vc facts other = None

-- the facts of a source after these events, one after the other
abbrev pub facts_through : Channel → List SourceEntry → List Fact
facts_through vc entries = fold (facts_past vc) [] entries

-- the outcome of a source for the entry of a place, after the entries before
abbrev pub source_answer : Channel → List SourceEntry → (place : ℕ) → Option Outcome
source_answer vc entries place = option_and_then (answer_in vc (facts_through vc (take place entries))) (slice_get entries place)

-- the line of an answer, as it is written
abbrev pub protocol_line : Option Text → Text
protocol_line None = []
protocol_line (Some answer) = codes "protocol: " ⋅ answer ⋅ newline

-- what the protocol answers at the entry of a place of an actor
abbrev pub port_said : Topology → (p place : ℕ) → Option (List Entry) → Option Json
port_said net p place None = None
port_said net p place (Some entries) = option_map reply_json (port_answer net p entries place)

abbrev pub source_said : (place : ℕ) → Option Conn → Option SourceJournal → Option Json
source_said place (Some conn) (Some journal) = option_map outcome_json (source_answer conn.vc journal.entries place)
source_said place conn journal = None

abbrev pub protocol_answer : Run → Actor → (place : ℕ) → Option Json
protocol_answer run (Port p) place = port_said run.net p place (slice_get run.journals p)
protocol_answer run (Source c) place = source_said place (conn_at run.net c) (slice_get run.sources.items c)

-- what is told of it
abbrev pub protocol_at : Run → Actor → (place : ℕ) → Text
protocol_at run actor place = protocol_line (option_map printed (protocol_answer run actor place))
