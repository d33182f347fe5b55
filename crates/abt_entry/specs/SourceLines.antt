-- What a line says of a source (docs/JOURNALS.md, "Sources").
use Rattle.std.specs.Prelude.{ℕ, ◌^◌, Bool, true, false, if◌then◌else◌, codes, Option, None, Some, option_and_then, Ok, Err}
use Rattle.std.specs.Str.{bytes_eq}
use Rattle.json.specs.Json.{Json}
use Rattle.json.specs.Find.{as_str}
use Rattle.abt_keep.specs.declared.plan.StorePlan.{StorePlan}
use Rattle.abt_keep.specs.declared.plan.StorePlan.TheVariants.{Works, FailsBefore}
use Rattle.abt_model.specs.declared.event.Event.{Event}
use Rattle.abt_model.specs.declared.event.Event.TheVariants as event
use Rattle.abt_model.specs.declared.outcome.Outcome.{Outcome}
use Rattle.abt_model.specs.declared.outcome.Outcome.TheVariants as outcome
use Rattle.abt_shaper.specs.declared.fault.ShapeFault.{ShapeFault}
use Rattle.abt_shaper.specs.declared.fault.ShapeFault.TheVariants as shape
use Rattle.abt_model.specs.declared.entry.SourceEntry.{SourceEntry}
use Rattle.abt_model.specs.declared.entry.SourceEntry.TheVariants as entry
use Rattle.abt_source.specs.declared.fault.AskFault.TheVariants as ask
use Rattle.abt_text.specs.Text.{Text}
use Rattle.abt_entry.specs.declared.fault.LineFault.TheVariants as fault
use Rattle.abt_entry.specs.declared.member.Member.{Member}
use Rattle.abt_entry.specs.declared.member.Member.TheVariants as of
use Rattle.abt_entry.specs.Cells.{request_in}
use Rattle.abt_text.specs.FirstFault.{◌>>=◌}
use Rattle.abt_entry.specs.Reading.{Read, needed}
use Rattle.abt_entry.specs.Values.{find, member_at, whole_of, whole_at, rate_as, truth_at, if_there}
use Rattle.abt_entry.specs.Words.{start_fault_of, ask_fault_of, heard_of, cause_of, plan_of, is_failed}

-- the plan of the store at an ask: it works if that isn't said
abbrev pub plan_in : Option Json → Read StorePlan
plan_in None = Ok Works
plan_in (Some json) = needed of.Store (option_and_then plan_of (as_str json))

abbrev pub ask_in : ℕ → Json → Json → Read Event
ask_in conn json code = do
  rate ← rate_as of.Ask code
  plan ← plan_in (find of.Store json)
  Ok (event.Ask conn rate plan)

abbrev pub told_in : ℕ → Json → Json → Read Event
told_in conn json at_told = do
  seq ← whole_of (2 ^ 32) of.Told at_told
  granted ← truth_at of.Granted json
  Ok (event.Told conn seq granted)

-- the words `again` and `crash`, or else what an object says
abbrev pub if_word : ℕ → Option Text → Read Event → Read Event
if_word conn (Some word) other =
    if bytes_eq word (codes "again") then Ok (event.Again conn)
    else if bytes_eq word (codes "crash") then Ok (event.Crash conn)
    else Err (fault.Member of.Did)
if_word conn None other = other

-- whether the source refused since its record isn't stored
abbrev pub lacks_record : Outcome → Bool
lacks_record (outcome.AskRefused ask.Keep) = true
lacks_record other = false

-- whether a write failed of which it isn't said whether it was stored
abbrev pub is_untold : Outcome → Option Json → Bool
is_untold came (Some store) = is_failed (as_str store)
is_untold came None = lacks_record came

-- whether what a source did leaves open whether a write that failed was stored
abbrev pub leaves_open : Event → Outcome → Json → Bool
leaves_open (event.Ask conn rate plan) came json = is_untold came (find of.Store json)
leaves_open other came json = false

-- an entry, its ask under the plan that nothing was stored
abbrev pub unstored : SourceEntry → SourceEntry
unstored (entry.Did (event.Ask conn rate plan) came) = entry.Did (event.Ask conn rate FailsBefore) came
unstored other = other

-- the deed of the source of a connection: one of `again`, `crash`, `start`, `ask`, `emit` and `told`
abbrev pub did_in : ℕ → Json → Read Event
did_in conn json =
    if_word conn (as_str json)
    (if_there (find of.Start json) (λ moment. whole_of (2 ^ 64) of.Start moment >>= (λ now. Ok (event.Start conn now)))
    (if_there (find of.Ask json) (ask_in conn json)
    (if_there (find of.Emit json) (λ moment. whole_of (2 ^ 64) of.Emit moment >>= (λ now. Ok (event.Emit conn now)))
    (if_there (find of.Told json) (told_in conn json)
    (Err fault.Kind)))))

-- why no cell left: a word, or else the moment from which one may
abbrev pub shape_word : Text → Read ShapeFault
shape_word word =
    if bytes_eq word (codes "ClockBack") then Ok shape.ClockBack
    else if bytes_eq word (codes "TimeRange") then Ok shape.TimeRange
    else if bytes_eq word (codes "Zero") then Ok shape.Zero
    else Err (fault.Member of.Refused)

abbrev pub shape_by : Json → Option Text → Read ShapeFault
shape_by json (Some word) = shape_word word
shape_by json None = whole_at (2 ^ 64) of.TooSoon json >>= (λ next. Ok (shape.TooSoon next))

-- why a source didn't do what it was to
abbrev pub refusal_in : Event → Json → Read Outcome
refusal_in (event.Start conn now) json = needed of.Refused (option_and_then start_fault_of (as_str json)) >>= (λ why. Ok (outcome.StartRefused why))
refusal_in (event.Ask conn rate plan) json = needed of.Refused (option_and_then ask_fault_of (as_str json)) >>= (λ why. Ok (outcome.AskRefused why))
refusal_in (event.Emit conn now) json = shape_by json (as_str json) >>= (λ why. Ok (outcome.EmitRefused why))
refusal_in other json = Err (fault.Member of.Refused)

abbrev pub emitted_in : Json → Read Outcome
emitted_in json = do
  cell ← whole_at (2 ^ 64) of.Cell json
  next ← whole_at (2 ^ 64) of.Next json
  Ok (outcome.Emitted cell next)

-- the words `started` and `crashed`, or else what an object says
abbrev pub if_plain : Option Text → Read Outcome → Read Outcome
if_plain (Some word) other =
    if bytes_eq word (codes "started") then Ok outcome.Started
    else if bytes_eq word (codes "crashed") then Ok outcome.Crashed
    else Err (fault.Member of.Outcome)
if_plain None other = other

-- the outcome of an event: one of `started`, `crashed`, `refused`, `asked`, `again`, `emitted`, `told` and `not-enabled`
abbrev pub outcome_in : Event → Json → Read Outcome
outcome_in deed json =
    if_plain (as_str json)
    (if_there (find of.Refused json) (refusal_in deed)
    (if_there (find of.Asked json) (λ cell. request_in of.Asked cell >>= (λ request. Ok (outcome.Asked request)))
    (if_there (find of.Again json) (λ cell. request_in of.Again cell >>= (λ request. Ok (outcome.Repeated request)))
    (if_there (find of.Emitted json) emitted_in
    (if_there (find of.Told json) (λ word. needed of.Told (option_and_then heard_of (as_str word)) >>= (λ heard. Ok (outcome.Told heard)))
    (if_there (find of.NotEnabled json) (λ word. needed of.NotEnabled (option_and_then cause_of (as_str word)) >>= (λ cause. Ok (outcome.NotEnabled cause)))
    (Err fault.Kind)))))))

abbrev pub deed_in : ℕ → Json → Json → Read SourceEntry
deed_in conn json at_did = do
  deed ← did_in conn at_did
  at_outcome ← member_at of.Outcome json
  came ← outcome_in deed at_outcome
  Ok (entry.Did deed came)

abbrev pub arrived_in : Json → Read SourceEntry
arrived_in json = do
  cell ← whole_at (2 ^ 64) of.Cell json
  place ← whole_at (2 ^ 64) of.Place json
  Ok (entry.Arrived cell place)

-- whether an entry leaves that open whose `did` has this value
abbrev pub is_open_in : SourceEntry → Option Json → Bool
is_open_in (entry.Did deed came) (Some json) = leaves_open deed came json
is_open_in (entry.Did deed came) None = false
is_open_in (entry.Sent place) found = false
is_open_in (entry.Arrived cell place) found = false

-- an entry of the source of a connection: one of `did`, `sent` and `arrived`
abbrev pub entry_in : ℕ → Json → Read SourceEntry
entry_in conn json =
    if_there (find of.Did json) (deed_in conn json)
    (if_there (find of.Sent json) (λ number. whole_of (2 ^ 64) of.Sent number >>= (λ place. Ok (entry.Sent place)))
    (if_there (find of.Arrived json) arrived_in
    (Err fault.Kind)))
