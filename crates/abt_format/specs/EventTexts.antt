-- What the text of an event says (docs/FORMATS.md, "Scenario"). What is said here is accepted, and nothing else.
use Rattle.std.specs.Prelude.{if◌then◌else◌, Bool, true, false, List, [], ◌∷◌, codes, Option, Some, None}
use Rattle.std.specs.Str.{bytes_eq}
use Rattle.abt_keep.specs.declared.plan.StorePlan.{StorePlan}
use Rattle.abt_keep.specs.declared.plan.StorePlan.TheVariants.{Works}
use Rattle.abt_model.specs.declared.event.Event.{Event}
use Rattle.abt_model.specs.declared.event.Event.TheVariants as event
use Rattle.abt_text.specs.Text.{Text}
use Rattle.abt_text.specs.Words.{words_of}
use Rattle.abt_format.specs.Values.{◌>>=◌, conn_of, hop_of, seq_of, moment_of, cell_of, rate_of, plan_of, port_of, units_in}
use Rattle.abt_format.specs.declared.event.Verb.{Verb}
use Rattle.abt_format.specs.declared.event.Verb.TheVariants.{Start, Ask, Again, Crash, Emit, Arrive, Request, Turn, Yes, No, ToldYes, ToldNo, Capacity}

-- the first word
abbrev pub verb_of : Text → Option Verb
verb_of word =
    if bytes_eq word (codes "start") then Some Start
    else if bytes_eq word (codes "ask") then Some Ask
    else if bytes_eq word (codes "again") then Some Again
    else if bytes_eq word (codes "crash") then Some Crash
    else if bytes_eq word (codes "emit") then Some Emit
    else if bytes_eq word (codes "arrive") then Some Arrive
    else if bytes_eq word (codes "request") then Some Request
    else if bytes_eq word (codes "turn") then Some Turn
    else if bytes_eq word (codes "yes") then Some Yes
    else if bytes_eq word (codes "no") then Some No
    else if bytes_eq word (codes "told-yes") then Some ToldYes
    else if bytes_eq word (codes "told-no") then Some ToldNo
    else if bytes_eq word (codes "capacity") then Some Capacity
    else None

-- `start C NOW`
abbrev pub start_of : List Text → Option Event
start_of (c ∷ t ∷ []) = do
  conn ← conn_of c
  now ← moment_of t
  Some (event.Start conn now)
start_of _ = None

abbrev pub ask_with : Text → Text → StorePlan → Option Event
ask_with c code plan = do
  conn ← conn_of c
  rate ← rate_of code
  Some (event.Ask conn rate plan)

-- `ask C CODE`, if the store works; `ask C CODE before`, `ask C CODE after`, if it fails
abbrev pub ask_of : List Text → Option Event
ask_of (c ∷ code ∷ []) = ask_with c code Works
ask_of (c ∷ code ∷ word ∷ []) = do
  plan ← plan_of word
  ask_with c code plan
ask_of _ = None

-- `again C`
abbrev pub again_of : List Text → Option Event
again_of (c ∷ []) = do
  conn ← conn_of c
  Some (event.Again conn)
again_of _ = None

-- `crash C`
abbrev pub crash_of : List Text → Option Event
crash_of (c ∷ []) = do
  conn ← conn_of c
  Some (event.Crash conn)
crash_of _ = None

-- `emit C NOW`
abbrev pub emit_of : List Text → Option Event
emit_of (c ∷ t ∷ []) = do
  conn ← conn_of c
  now ← moment_of t
  Some (event.Emit conn now)
emit_of _ = None

-- `arrive C CELL AT`
abbrev pub arrive_of : List Text → Option Event
arrive_of (c ∷ n ∷ t ∷ []) = do
  conn ← conn_of c
  cell ← cell_of n
  at ← moment_of t
  Some (event.Arrive conn cell at)
arrive_of _ = None

-- `request C HOP SEQ`
abbrev pub request_of : List Text → Option Event
request_of (c ∷ h ∷ s ∷ []) = do
  conn ← conn_of c
  hop ← hop_of h
  seq ← seq_of s
  Some (event.Request conn hop seq)
request_of _ = None

-- `turn C SEQ`
abbrev pub turn_of : List Text → Option Event
turn_of (c ∷ s ∷ []) = do
  conn ← conn_of c
  seq ← seq_of s
  Some (event.Turn conn seq)
turn_of _ = None

-- `yes C HOP SEQ`, `no C HOP SEQ`
abbrev pub answer_of : Bool → List Text → Option Event
answer_of granted (c ∷ h ∷ s ∷ []) = do
  conn ← conn_of c
  hop ← hop_of h
  seq ← seq_of s
  Some (event.Answer conn hop seq granted)
answer_of granted _ = None

-- `told-yes C SEQ`, `told-no C SEQ`
abbrev pub told_of : Bool → List Text → Option Event
told_of granted (c ∷ s ∷ []) = do
  conn ← conn_of c
  seq ← seq_of s
  Some (event.Told conn seq granted)
told_of granted _ = None

-- `capacity P U`
abbrev pub capacity_of : List Text → Option Event
capacity_of (p ∷ u ∷ []) = do
  port ← port_of p
  units ← units_in u
  Some (event.Capacity port units)
capacity_of _ = None

-- what the words behind the first say with it
abbrev pub said_by : Verb → List Text → Option Event
said_by Start words = start_of words
said_by Ask words = ask_of words
said_by Again words = again_of words
said_by Crash words = crash_of words
said_by Emit words = emit_of words
said_by Arrive words = arrive_of words
said_by Request words = request_of words
said_by Turn words = turn_of words
said_by Yes words = answer_of true words
said_by No words = answer_of false words
said_by ToldYes words = told_of true words
said_by ToldNo words = told_of false words
said_by Capacity words = capacity_of words

-- what some words say
abbrev pub said : List Text → Option Event
said [] = None
said (word ∷ words) = do
  verb ← verb_of word
  said_by verb words

-- the event that a text says: its words are separated by exactly one space, with nothing before or after
abbrev pub event_of : Text → Option Event
event_of text = said (words_of text)
