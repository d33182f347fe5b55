-- The outcomes of the events of one connection, by the connection's facts, the newest first (docs/FORMATS.md, "Events
-- and outcomes"). The causes that stop an event are tried in the order of that table.
use Rattle.std.specs.Prelude.{ℕ, ◌+◌, ◌-◌, ◌==◌, ◌&&◌, not, nat_lt, nat_le, Bool, true, false, List, length, if◌then◌else◌, min, Result, Ok, Err}
use Rattle.abt_rate.specs.Limits.{emit_max, number_max, start_max}
use Rattle.abt_rate.specs.Rate.{spacing_of}
use Rattle.abt_cell.specs.Channel.{Channel}
use Rattle.abt_cell.specs.Message.{Terms, answer_to}
use Rattle.abt_keep.specs.declared.plan.StorePlan.{StorePlan}
use Rattle.abt_keep.specs.declared.plan.StorePlan.TheVariants.{Works, FailsBefore, FailsAfter}
use Rattle.abt_shaper.specs.declared.fault.ShapeFault.TheVariants.{TimeRange, Zero, TooSoon}
use Rattle.abt_source.specs.declared.fault.StartFault.TheVariants.{TimeRange as StartTimeRange}
use Rattle.abt_source.specs.declared.fault.AskFault.TheVariants.{SeqExhausted, Keep}
use Rattle.abt_ledger.specs.declared.fault.CapacityFault.{CapacityFault}
use Rattle.abt_net.specs.declared.conn.Conn.{Conn}
use Rattle.abt_facts.specs.declared.fact.Fact.{Fact}
use Rattle.abt_facts.specs.Source.{SourceState, Down, Idle, Asking, state_of, rate_of, last_of, clock_of, next_of, writes}
use Rattle.abt_facts.specs.Sent.{request_is_at, request_is_through, answer_is_at, answer_is_home}
use Rattle.abt_facts.specs.Hop.{held_of}
use Rattle.abt_facts.specs.Cells.{emitted_of, fence_of, last_arrival_of, is_in_time, verdict_at}
use Rattle.abt_model.specs.declared.event.Event.{Event}
use Rattle.abt_model.specs.declared.event.Event.TheVariants.{Start, Ask, Again, Crash, Emit, Arrive, Request, Turn, Answer, Told, Capacity}
use Rattle.abt_model.specs.declared.outcome.Cause.TheVariants.{Down as IsDown, Running, NotSent, Fenced, Delay, ClockBack, Unknown, NotAsking}
use Rattle.abt_model.specs.declared.outcome.Heard.{Heard}
use Rattle.abt_model.specs.declared.outcome.Heard.TheVariants.{Raised, Refused, Ignored}
use Rattle.abt_model.specs.declared.outcome.Outcome.{Outcome}
use Rattle.abt_model.specs.declared.outcome.Outcome.TheVariants.{Started, StartRefused, Asked, AskRefused, Repeated, Crashed, Emitted, EmitRefused, Arrived, Requested, Turned, Answered, Told as HasTold, CapacitySet, CapacityRefused, NotEnabled}
use Rattle.abt_model.specs.Decision.{request_decision, answer_decision}
use Rattle.abt_source.specs.SourceFacts.{request_of}

-- the outcome of a source that is up; of one that is down it is Down
abbrev pub if_up : SourceState → Outcome → Outcome
if_up Down outcome = NotEnabled IsDown
if_up Idle outcome = outcome
if_up (Asking seq) outcome = outcome

abbrev pub start_answer : SourceState → List Fact → ℕ → Outcome
start_answer Down facts now =
    if nat_lt now (clock_of facts) then NotEnabled ClockBack
    else (if nat_lt start_max now then StartRefused StartTimeRange else Started)
start_answer Idle facts now = NotEnabled Running
start_answer (Asking seq) facts now = NotEnabled Running

-- the request takes the next number; its floor is the lesser of the present rate and the asked one
abbrev pub next_request : Channel → List Fact → ℕ → Terms
next_request vc facts rate = record { vc = vc; seq = last_of facts + 1; floor = min (rate_of facts) rate; ask = rate }

abbrev pub stored_answer : StorePlan → Terms → Outcome
stored_answer Works request = Asked request
stored_answer FailsBefore request = AskRefused Keep
stored_answer FailsAfter request = AskRefused Keep

-- the store is called only if the ask writes
abbrev pub kept_answer : (writes : Bool) → StorePlan → Terms → Outcome
kept_answer true plan request = stored_answer plan request
kept_answer false plan request = Asked request

abbrev pub ask_answer : Channel → List Fact → ℕ → StorePlan → Outcome
ask_answer vc facts rate plan =
    if last_of facts == number_max then AskRefused SeqExhausted
    else kept_answer (writes facts rate) plan (next_request vc facts rate)

abbrev pub again_answer : Channel → SourceState → List Fact → Outcome
again_answer vc Down facts = NotEnabled IsDown
again_answer vc Idle facts = NotEnabled NotAsking
again_answer vc (Asking seq) facts = Repeated (request_of vc facts seq)

abbrev pub emit_answer : List Fact → ℕ → Outcome
emit_answer facts now =
    if nat_lt now (clock_of facts) then NotEnabled ClockBack
    else (if nat_lt emit_max now then EmitRefused TimeRange
    else (if rate_of facts == 0 then EmitRefused Zero
    else (if nat_lt now (next_of facts) then EmitRefused (TooSoon (next_of facts))
    else Emitted (emitted_of facts) (now + spacing_of (rate_of facts)))))

abbrev pub arrive_answer : Conn → List Fact → (cell at : ℕ) → Outcome
arrive_answer conn facts cell at =
    if not (nat_lt cell (emitted_of facts)) then NotEnabled NotSent
    else (if nat_lt cell (fence_of facts) then NotEnabled Fenced
    else (if not (is_in_time conn.delay conn.tau facts cell at) then NotEnabled Delay
    else (if nat_lt at (last_arrival_of facts) then NotEnabled ClockBack
    else Arrived (verdict_at conn.tau facts at (held_of facts 1)))))

-- a source hears the answer to the number that it waits for, and no other
abbrev pub hearing : Bool → Heard
hearing granted = if granted then Raised else Refused

abbrev pub told_answer : SourceState → (seq : ℕ) → Bool → Heard
told_answer Down seq granted = Ignored
told_answer Idle seq granted = Ignored
told_answer (Asking newest) seq granted = if newest == seq then hearing granted else Ignored

-- whether a path of so many hops has this one
abbrev pub is_hop : (hops j : ℕ) → Bool
is_hop hops j = nat_le 1 j && nat_le j hops

-- The outcome of an event of this connection, given what is reserved on the port that it comes to, and its capacity.
-- An event of a port alone has no connection.
abbrev pub answer_by : Conn → (reserved capacity : ℕ) → List Fact → Event → Outcome
answer_by conn reserved capacity facts (Start c now) = start_answer (state_of facts) facts now
answer_by conn reserved capacity facts (Ask c rate plan) = if_up (state_of facts) (ask_answer conn.vc facts rate plan)
answer_by conn reserved capacity facts (Again c) = again_answer conn.vc (state_of facts) facts
answer_by conn reserved capacity facts (Crash c) = if_up (state_of facts) Crashed
answer_by conn reserved capacity facts (Emit c now) = if_up (state_of facts) (emit_answer facts now)
answer_by conn reserved capacity facts (Arrive c cell at) = arrive_answer conn facts cell at
answer_by conn reserved capacity facts (Request c hop seq) =
    if not (is_hop (length conn.path) hop) then NotEnabled Unknown
    else (if not (request_is_at facts seq hop) then NotEnabled NotSent
    else Requested (request_decision facts reserved capacity hop (request_of conn.vc facts seq)))
answer_by conn reserved capacity facts (Turn c seq) =
    if not (request_is_through (length conn.path) facts seq) then NotEnabled NotSent else Turned
answer_by conn reserved capacity facts (Answer c hop seq granted) =
    if not (is_hop (length conn.path) hop) then NotEnabled Unknown
    else (if not (answer_is_at (length conn.path) facts seq hop granted) then NotEnabled NotSent
    else Answered (answer_decision facts hop (answer_to (request_of conn.vc facts seq) granted)))
answer_by conn reserved capacity facts (Told c seq granted) =
    if not (answer_is_home facts seq granted) then NotEnabled NotSent
    else HasTold (told_answer (state_of facts) seq granted)
answer_by conn reserved capacity facts (Capacity p u) = NotEnabled Unknown

-- the outcome of an event that gives a port another capacity, by what the port returns
abbrev pub capped : Result (Unit {0}) CapacityFault → Outcome
capped (Ok done) = CapacitySet
capped (Err fault) = CapacityRefused fault
