-- The texts of reasons, by the numbers that decide and by the outcome of an event (docs/EXPLAIN.md).
use Rattle.std.specs.Prelude.{ℕ, ◌-◌, ◌==◌, Bool, true, false, [], codes, if◌then◌else◌, Option, None, Some}
use Rattle.abt_cell.specs.Message.{Terms}
use Rattle.abt_text.specs.Text.{Text, ◌⋅◌, decimal}
use Rattle.abt_format.specs.Measures.{cells_text, seconds_text}
use Rattle.abt_ledger.specs.declared.fault.CapacityFault.{CapacityFault}
use Rattle.abt_ledger.specs.declared.fault.CapacityFault.TheVariants.{BelowSum, AboveLimit}
use Rattle.abt_model.specs.declared.outcome.Cause.{Cause}
use Rattle.abt_model.specs.declared.outcome.Cause.TheVariants.{Down, Running, NotSent, Fenced, Delay, ClockBack, Unknown, NotAsking}
use Rattle.abt_model.specs.declared.outcome.Heard.{Heard}
use Rattle.abt_model.specs.declared.outcome.Heard.TheVariants.{Raised, Refused, Ignored}
use Rattle.abt_model.specs.declared.outcome.Outcome.{Outcome}
use Rattle.abt_model.specs.declared.outcome.Outcome.TheVariants.{Started, StartRefused, Asked, AskRefused, Repeated, Crashed, Emitted, EmitRefused, Arrived, Requested, Turned, Answered, Told, CapacitySet, CapacityRefused, NotEnabled}
use Rattle.abt_node.specs.declared.reply.Back.{Back}
use Rattle.abt_node.specs.declared.reply.Back.TheVariants as back
use Rattle.abt_node.specs.declared.reply.DropCause.TheVariants.{Stale}
use Rattle.abt_node.specs.declared.reply.Onward.{Onward}
use Rattle.abt_node.specs.declared.reply.Onward.TheVariants as onward
use Rattle.abt_shaper.specs.declared.fault.ShapeFault.{ShapeFault}
use Rattle.abt_shaper.specs.declared.fault.ShapeFault.TheVariants as shape
use Rattle.abt_source.specs.declared.fault.AskFault.{AskFault}
use Rattle.abt_source.specs.declared.fault.AskFault.TheVariants as ask_fault
use Rattle.abt_source.specs.declared.fault.StartFault.{StartFault}
use Rattle.abt_source.specs.declared.fault.StartFault.TheVariants as start_fault
use Rattle.abt_format.specs.EventText.{event_text}
use Rattle.abt_model.specs.declared.event.Event.{Event}
use Rattle.abt_model.specs.declared.event.Event.TheVariants as event
use Rattle.abt_reason.specs.declared.grounds.Grounds.{Grounds}
use Rattle.abt_reason.specs.declared.grounds.Numbers.{Numbers}
use Rattle.abt_reason.specs.declared.sighting.Sighting.{Sighting}
use Rattle.abt_reason.specs.declared.sighting.Sought.{Sought}
use Rattle.abt_reason.specs.declared.grounds.Numbers.TheVariants.{Nothing, NoConnection, NoPort, NoHop, Moment, Cell, AtHop, Newest, Waits, Reserved}

-- a refusal: the number was refused there before, or the asked rate doesn't fit beside the others
abbrev pub refusal_text : (seq newest asks holds total capacity : ℕ) → Text
refusal_text seq newest asks holds total capacity =
    if seq == newest then (codes ": " ⋅ decimal seq ⋅ codes " was refused here")
    else (codes ": asks " ⋅ decimal asks ⋅ codes ", holds " ⋅ decimal holds ⋅ codes ", others hold " ⋅ decimal (total - holds) ⋅ codes " of " ⋅ decimal capacity)

-- a message that is older than the newest
abbrev pub newest_text : ℕ → Text
newest_text newest = codes ": " ⋅ decimal newest ⋅ codes " is the newest here"

abbrev pub onward_reason : Numbers → Onward → Text
onward_reason (AtHop seq newest asks holds total capacity) (onward.Refuse answer) = refusal_text seq newest asks holds total capacity
onward_reason (AtHop seq newest asks holds total capacity) (onward.Drop Stale) = newest_text newest
onward_reason numbers reply = []

abbrev pub back_reason : Numbers → Back → Text
back_reason (Newest newest) (back.Drop Stale) = newest_text newest
back_reason numbers reply = []

abbrev pub waits_text : Option ℕ → Text
waits_text None = codes ": waits for none"
waits_text (Some seq) = codes ": waits for " ⋅ decimal seq

abbrev pub heard_reason : Numbers → Heard → Text
heard_reason (Waits awaited) Ignored = waits_text awaited
heard_reason numbers heard = []

-- a moment before the one that may not be undercut
abbrev pub before_text : (now last : ℕ) → Text
before_text now last = codes ": " ⋅ seconds_text now ⋅ codes " s is before " ⋅ seconds_text last ⋅ codes " s"

-- when a cell left, and how long its line takes
abbrev pub delay_text : (cell at moment delay tau : ℕ) → Text
delay_text cell at moment delay tau =
    codes ": cell " ⋅ decimal cell ⋅ codes " left at " ⋅ seconds_text moment ⋅ codes " s and takes " ⋅ seconds_text delay
    ⋅ codes " s and up to " ⋅ seconds_text tau ⋅ codes " s more, so it isn't there at " ⋅ seconds_text at ⋅ codes " s"

-- a cell that can't arrive
abbrev pub cell_reason : (cell at emitted fence moment delay tau last : ℕ) → Cause → Text
cell_reason cell at emitted fence moment delay tau last NotSent =
    codes ": cell " ⋅ decimal cell ⋅ codes " isn't among the " ⋅ decimal emitted ⋅ codes " that left"
cell_reason cell at emitted fence moment delay tau last Fenced =
    codes ": cell " ⋅ decimal cell ⋅ codes " is below the fence " ⋅ decimal fence
cell_reason cell at emitted fence moment delay tau last Delay = delay_text cell at moment delay tau
cell_reason cell at emitted fence moment delay tau last ClockBack = before_text at last
cell_reason cell at emitted fence moment delay tau last cause = []

abbrev pub cell_text : Numbers → Cause → Text
cell_text (Cell cell at emitted fence moment delay tau last) cause = cell_reason cell at emitted fence moment delay tau last cause
cell_text numbers cause = []

-- a cause that has no numbers
abbrev pub plain_reason : Cause → Text
plain_reason Down = codes ": the source is down"
plain_reason Running = codes ": the source is up"
plain_reason NotSent = codes ": no such message lies there"
plain_reason NotAsking = codes ": the source waits for no answer"
plain_reason cause = []

-- what an answer says
abbrev pub verdict_text : Bool → Text
verdict_text true = codes "yes "
verdict_text false = codes "no "

-- the message that an event takes on, and where it lies
abbrev pub lies_text : Event → Text
lies_text (event.Request c hop seq) = codes "request " ⋅ decimal seq ⋅ codes " lies at hop " ⋅ decimal hop
lies_text (event.Turn c seq) = codes "request " ⋅ decimal seq ⋅ codes " lies at the end of the path"
lies_text (event.Answer c hop seq granted) = verdict_text granted ⋅ decimal seq ⋅ codes " lies at hop " ⋅ decimal hop
lies_text (event.Told c seq granted) = verdict_text granted ⋅ decimal seq ⋅ codes " lies at its source"
lies_text other = []

-- where it lies, and that this event comes next of it
abbrev pub seen_text : Event → Text
seen_text next = codes ": " ⋅ lies_text next ⋅ codes ": `" ⋅ event_text next ⋅ codes "` comes next"

-- a message that was never sent
abbrev pub unseen_text : (seq : ℕ) → Text
unseen_text seq = codes ": no message with number " ⋅ decimal seq ⋅ codes " lies at any hop"

-- where the message lies that isn't where an event looks for it
abbrev pub sighting_text : (seq : ℕ) → Option Sighting → Text
sighting_text seq None = unseen_text seq
sighting_text seq (Some sighting) = seen_text sighting.next

abbrev pub cause_reason : Numbers → Option Sought → Cause → Text
cause_reason (NoConnection count) sought cause = codes ": the net has " ⋅ decimal count ⋅ codes " connections"
cause_reason (NoPort count) sought cause = codes ": the net has " ⋅ decimal count ⋅ codes " ports"
cause_reason (NoHop count) sought cause = codes ": the path has " ⋅ decimal count ⋅ codes " hops, counted from 1"
cause_reason (Moment now clock) sought ClockBack = before_text now clock
cause_reason (Cell cell at emitted fence moment delay tau last) sought cause = cell_text (Cell cell at emitted fence moment delay tau last) cause
cause_reason numbers (Some sought) NotSent = sighting_text sought.seq sought.sighting
cause_reason numbers sought cause = plain_reason cause

-- the moment from which the next cell may leave, behind some words
abbrev pub next_text : Text → ℕ → Text
next_text words next = words ⋅ seconds_text next ⋅ codes " s"

-- why no cell left, if no moment tells it
abbrev pub shape_words : ShapeFault → Text
shape_words shape.Zero = codes ": the rate is 0"
shape_words shape.TimeRange = codes ": no cell leaves after 2305843.009213693952 s"
shape_words shape.ClockBack = codes ""
shape_words (shape.TooSoon next) = codes ""

abbrev pub shape_reason : ShapeFault → Text
shape_reason (shape.TooSoon next) = next_text (codes ": not before ") next
shape_reason fault = shape_words fault

abbrev pub start_reason : StartFault → Text
start_reason start_fault.Keep = codes ": the store failed"
start_reason start_fault.TimeRange = codes ": no source starts after 2305842.009213693952 s"

abbrev pub ask_reason : AskFault → Text
ask_reason ask_fault.SeqExhausted = codes ": 4294967295 was the last number"
ask_reason ask_fault.Keep = codes ": the store failed"

abbrev pub capacity_reason : Numbers → CapacityFault → Text
capacity_reason (Reserved total) BelowSum = codes ": " ⋅ decimal total ⋅ codes " are held there"
capacity_reason numbers AboveLimit = codes ": the limit is 1152921504606846976"
capacity_reason numbers fault = []

-- what a request asks for, in cells per second
abbrev pub request_reason : Terms → Text
request_reason request =
    codes ": asks for " ⋅ cells_text request.ask ⋅ codes " cells/s, keeps " ⋅ cells_text request.floor

-- what stands behind an outcome: its reason, or what its codes and moments are
abbrev pub reason_text : Grounds → Outcome → Text
reason_text grounds (StartRefused fault) = start_reason fault
reason_text grounds (Asked request) = request_reason request
reason_text grounds (AskRefused fault) = ask_reason fault
reason_text grounds (Repeated request) = request_reason request
reason_text grounds (Emitted cell next) = next_text (codes ": the next not before ") next
reason_text grounds (EmitRefused fault) = shape_reason fault
reason_text grounds (Requested reply) = onward_reason grounds.numbers reply
reason_text grounds (Answered reply) = back_reason grounds.numbers reply
reason_text grounds (Told heard) = heard_reason grounds.numbers heard
reason_text grounds (CapacityRefused fault) = capacity_reason grounds.numbers fault
reason_text grounds (NotEnabled cause) = cause_reason grounds.numbers grounds.sought cause
reason_text grounds outcome = []
