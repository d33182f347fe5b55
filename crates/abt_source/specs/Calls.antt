-- The results of a source's calls, to compute with. What they come to stands in `SourceFacts`.
use Rattle.std.specs.Prelude.{ℕ, ◌+◌, ◌&&◌, ◌==◌, nat_le, nat_lt, min, Bool, false, Option, None, Some, Result, Ok, Err, if◌then◌else◌}
use Rattle.abt_cell.specs.Channel.{Channel, same_channel}
use Rattle.abt_cell.specs.Message.{Terms, Reply}
use Rattle.abt_facts.specs.Keeping.{need_by, writes_by, written_by}
use Rattle.abt_keep.specs.Record.{KeptRecord, old_record}
use Rattle.abt_keep.specs.declared.fault.StoreFault.{StoreFault}
use Rattle.abt_rate.specs.Limits.{emit_max, spacing_max, start_max}
use Rattle.abt_rate.specs.Rate.{spacing_of}
use Rattle.abt_shaper.specs.declared.fault.ShapeFault.{ShapeFault}
use Rattle.abt_shaper.specs.declared.fault.ShapeFault.TheVariants.{ClockBack, TimeRange as EmissionTimeRange, Zero, TooSoon}
use Rattle.abt_source.specs.SourceView.{SourceView}
use Rattle.abt_source.specs.declared.start.StartRefused.{StartRefused}
use Rattle.abt_source.specs.declared.fault.StartFault.TheVariants.{Keep as StartKeep, TimeRange}
use Rattle.abt_source.specs.declared.ask.AskRefused.{AskRefused}
use Rattle.abt_source.specs.declared.fault.AskFault.TheVariants.{Keep}
use Rattle.abt_source.specs.declared.answer.Answered.{Answered}
use Rattle.abt_source.specs.declared.answer.Answered.TheVariants.{Raised, Refused, Ignored}

-- the source of a connection to which nothing has happened
abbrev pub new_source : Channel → SourceView
new_source vc =
    record { vc = vc; rate = 0; last = 0; kept = old_record 0; gap = spacing_max; next = 0; emitted = None; newest = None }

-- a source that was started from a kept record: no cell leaves during the hold-off, which is the kept spacing
abbrev pub started_source : SourceView → KeptRecord → (now : ℕ) → SourceView
started_source s kept now = record {
  vc = s.vc;
  rate = 0;
  last = kept.number;
  kept = kept;
  gap = kept.spacing;
  next = now + kept.spacing;
  emitted = None;
  newest = None;
}

-- the result of a start, by what the store gave
abbrev pub result_of_start : SourceView → (now : ℕ) → Result KeptRecord StoreFault → Result SourceView StartRefused
result_of_start s now (Err _) = Err (record { source = s; fault = StartKeep })
result_of_start s now (Ok kept) =
    if nat_le now start_max then Ok (started_source s kept now) else Err (record { source = s; fault = TimeRange })

-- a source that crashed: its last number, what it knows to be kept, the gap and the moment of its next cell stay
abbrev pub crashed_source : SourceView → SourceView
crashed_source s = record s { rate = 0; newest = None }

-- the next request of a source: its floor is the lesser of the present rate and the asked rate
abbrev pub next_request : SourceView → (ask : ℕ) → Terms
next_request s ask = record { vc = s.vc; seq = s.last + 1; floor = min s.rate ask; ask = ask }

-- the rate that an open request asks for, zero if there is none
abbrev pub asked_in : Option Terms → ℕ
asked_in None = 0
asked_in (Some request) = request.ask

-- the need of an ask, whether it writes, and what it writes then
abbrev pub need_for : SourceView → (ask : ℕ) → ℕ
need_for s ask = need_by s.gap s.rate (asked_in s.newest) ask

abbrev pub has_to_write : SourceView → (ask : ℕ) → Bool
has_to_write s ask = writes_by s.kept s.last (need_for s ask)

abbrev pub record_to_write : SourceView → (ask : ℕ) → KeptRecord
record_to_write s ask = written_by s.last (need_for s ask)

-- what a source knows to be kept after an ask whose request goes out
abbrev pub kept_after : SourceView → (ask : ℕ) → KeptRecord
kept_after s ask = if has_to_write s ask then record_to_write s ask else s.kept

-- a source that waits for the answer to a request, and shapes at its floor meanwhile
abbrev pub asking_source : SourceView → Terms → SourceView
asking_source s request =
    record s { rate = request.floor; last = request.seq; kept = kept_after s request.ask; newest = Some request }

-- the result of an ask that finds its number and its need kept
abbrev pub request_goes :
    {S : Type 0} → SourceView → (ask : ℕ) → Result (SourceView × Terms) (AskRefused S)
request_goes s ask = Ok (asking_source s (next_request s ask), next_request s ask)

-- the result of an ask that writes, by what the store returned
abbrev pub result_of_ask :
    {S : Type 0} → SourceView → (ask : ℕ) → Result (Unit {0}) StoreFault → Result (SourceView × Terms) (AskRefused S)
result_of_ask s ask (Err _) = Err (record { source = s; fault = Keep })
result_of_ask s ask (Ok _) = request_goes s ask

-- whether a moment is before that of the last emission
abbrev pub is_behind : Option ℕ → (now : ℕ) → Bool
is_behind None now = false
is_behind (Some last) now = nat_lt now last

-- the result of an emission at a rate, given the last one and the moment from which the next may leave
abbrev pub emission_at : (emitted : Option ℕ) → (next rate now : ℕ) → Result ℕ ShapeFault
emission_at emitted next rate now =
    if is_behind emitted now then Err ClockBack
    else if nat_lt emit_max now then Err EmissionTimeRange
    else if rate == 0 then Err Zero
    else if nat_lt now next then Err (TooSoon next)
    else Ok (now + spacing_of rate)

-- the result of a source's emission: the shaper's, at the present rate
abbrev pub result_of_emission : SourceView → (now : ℕ) → Result ℕ ShapeFault
result_of_emission s now = emission_at s.emitted s.next s.rate now

-- whether two requests are one
abbrev pub same_terms : Terms → Terms → Bool
same_terms a b = same_channel a.vc b.vc && a.seq == b.seq && a.floor == b.floor && a.ask == b.ask

-- a source that heard an answer to a request
abbrev pub heard_source : SourceView → Terms → (granted : Bool) → Answered
heard_source s request granted =
    if granted then Raised (record s { rate = request.ask; newest = None }) else Refused (record s { newest = None })

-- what an answer makes of a source with such a newest request, and of a source
abbrev pub result_of_answer_to : Option Terms → SourceView → Reply → Answered
result_of_answer_to None s answer = Ignored s
result_of_answer_to (Some request) s answer =
    if same_terms request answer.terms then heard_source s request answer.granted else Ignored s

abbrev pub result_of_answer : SourceView → Reply → Answered
result_of_answer s answer = result_of_answer_to s.newest s answer
