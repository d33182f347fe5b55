-- A source with its store over its whole lifetime. The store is any that keeps its trait's promise: each of its calls goes in one of three
-- ways, which are named by the plans of a store in memory (docs/RULES.md, "Kept records").
use Rattle.std.specs.Prelude.{ℕ, ◌==◌, Bool, true, false, List, [], ◌∷◌, ◌++◌, if◌then◌else◌, Option, None, Some, Result, Ok, Err}
use Rattle.abt_rate.specs.Limits.{number_max}
use Rattle.abt_rate.specs.Rate.{spacing_of}
use Rattle.abt_cell.specs.Message.{Terms}
use Rattle.abt_keep.specs.Record.{KeptRecord}
use Rattle.abt_keep.specs.declared.fault.StoreFault.{StoreFault}
use Rattle.abt_keep.specs.declared.fault.StoreFault.TheVariants.{Device}
use Rattle.abt_keep.specs.declared.plan.StorePlan.{StorePlan}
use Rattle.abt_keep.specs.declared.plan.StorePlan.TheVariants.{Works, FailsBefore, FailsAfter}
use Rattle.abt_shaper.specs.declared.fault.ShapeFault.{ShapeFault}
use Rattle.abt_source.specs.SourceView.{SourceView}
use Rattle.abt_source.specs.Calls.{result_of_start, result_of_emission, result_of_answer, crashed_source, has_to_write, record_to_write, next_request, asking_source}
use Rattle.abt_source.specs.declared.start.StartRefused.{StartRefused}
use Rattle.abt_source.specs.declared.answer.Answered.{Answered}
use Rattle.abt_source.specs.declared.answer.Answered.TheVariants.{Raised, Refused, Ignored}
use Rattle.abt_lifetime.specs.declared.call.SourceCall.{SourceCall}
use Rattle.abt_lifetime.specs.declared.call.SourceCall.TheVariants.{Start, Ask, Answer, Emit, Crash}

-- A source with its store: whether it is up, whether it was ever started, what is seen of it, and the record that the store holds.
pub record StoredView : Type 0 where
  pub is_up : Bool
  pub was_started : Bool
  pub source : SourceView
  pub held : KeptRecord

-- What a call leaves, and the request that goes out, if one does.
pub record Called : Type 0 where
  pub after : StoredView
  pub request : Option Terms

-- the source after a call by which no request goes out
abbrev pub silent : StoredView → Called
silent after = record { after = after; request = None }

-- what the store answers to a read
abbrev pub read_answer : StorePlan → KeptRecord → Result KeptRecord StoreFault
read_answer Works held = Ok held
read_answer FailsBefore held = Err Device
read_answer FailsAfter held = Err Device

abbrev pub started_by : StoredView → Result SourceView StartRefused → Called
started_by v (Ok source) = silent (record v { is_up = true; was_started = true; source = source })
started_by v (Err refused) = silent v

-- the next request for a rate goes out, while the store holds this record
abbrev pub request_out : StoredView → (rate : ℕ) → KeptRecord → Called
request_out v rate held = record {
  after = record v { source = asking_source v.source (next_request v.source rate); held = held };
  request = Some (next_request v.source rate);
}

-- an ask that has to write: the request goes out only if the store works, but the record may be held without that too
abbrev pub written_ask : StorePlan → StoredView → (rate : ℕ) → Called
written_ask Works v rate = request_out v rate (record_to_write v.source rate)
written_ask FailsBefore v rate = silent v
written_ask FailsAfter v rate = silent (record v { held = record_to_write v.source rate })

abbrev pub asked : StorePlan → StoredView → (rate : ℕ) → Called
asked plan v rate =
    if v.source.last == number_max then silent v
    else (if has_to_write v.source rate then written_ask plan v rate else request_out v rate v.held)

-- the source that an answer leaves
abbrev pub heard_in : Answered → SourceView
heard_in (Raised source) = source
heard_in (Refused source) = source
heard_in (Ignored source) = source

-- a source that sent a cell, whose gap is running from then on
abbrev pub emitted_by : StoredView → (now : ℕ) → Result ℕ ShapeFault → Called
emitted_by v now (Ok next) = silent (record v { source = record v.source { gap = spacing_of v.source.rate; next = next; emitted = Some now } })
emitted_by v now (Err fault) = silent v

-- a call of a source that is up, and of one that is down, which can be started alone
abbrev pub called_up : SourceCall → StorePlan → StoredView → Called
called_up (Start now) plan v = silent v
called_up (Ask rate) plan v = asked plan v rate
called_up (Answer reply) plan v = silent (record v { source = heard_in (result_of_answer v.source reply) })
called_up (Emit now) plan v = emitted_by v now (result_of_emission v.source now)
called_up Crash plan v = silent (record v { is_up = false; source = crashed_source v.source })

abbrev pub called_down : SourceCall → StorePlan → StoredView → Called
called_down (Start now) plan v = started_by v (result_of_start v.source now (read_answer plan v.held))
called_down call plan v = silent v

-- a call, in which the store fares so
abbrev pub called : SourceCall → StorePlan → StoredView → Called
called call plan v = if v.is_up then called_up call plan v else called_down call plan v

-- What calls leave, one after the other, each with the way in which the store fares, and the requests that go out, the first first.
pub record Lived : Type 0 where
  pub after : StoredView
  pub requests : List Terms

abbrev pub out_of : Option Terms → List Terms
out_of None = []
out_of (Some request) = request ∷ []

abbrev pub lived : List (SourceCall × StorePlan) → StoredView → Lived
lived [] v = record { after = v; requests = [] }
lived (first ∷ calls) v =
    let now = called first.0 first.1 v in
    let rest = lived calls now.after in
    record { after = rest.after; requests = out_of now.request ++ rest.requests }
