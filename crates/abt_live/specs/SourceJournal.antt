-- What a source's journal says (docs/LIVE.md, "A source").
use Rattle.std.specs.Prelude.{ℕ, ◌&&◌, nat_lt, Bool, true, false, [], if◌then◌else◌, codes}
use Rattle.json.specs.Print.{print}
use Rattle.json.specs.Tree.{json_tokens}
use Rattle.abt_rate.specs.Code.{code_of}
use Rattle.abt_rate.specs.Limits.{number_max}
use Rattle.abt_facts.specs.Source.{SourceState, Down, Idle, Asking}
use Rattle.abt_keep.specs.declared.plan.StorePlan.TheVariants.{Works}
use Rattle.abt_source.specs.SourceView.{SourceView}
use Rattle.abt_source.specs.Calls.{has_to_write}
use Rattle.abt_source.specs.declared.fault.AskFault.TheVariants.{Keep}
use Rattle.abt_model.specs.declared.event.Event.{Event}
use Rattle.abt_model.specs.declared.event.Event.TheVariants as event
use Rattle.abt_model.specs.declared.outcome.Outcome.{Outcome}
use Rattle.abt_model.specs.declared.outcome.Outcome.TheVariants.{AskRefused}
use Rattle.abt_model.specs.declared.entry.SourceEntry.TheVariants.{Did}
use Rattle.abt_entry.specs.EntryWritten.{entry_json}
use Rattle.abt_actor.specs.Actor.{ActorView}
use Rattle.abt_text.specs.Text.{Text, ◌⋅◌, newline, decimal, code_text}
use Rattle.abt_live.specs.FailedLine.{failed_line}
use Rattle.abt_live.specs.declared.source_asked.SourceAsked.{SourceAsked}
use Rattle.abt_live.specs.declared.source_asked.SourceAsked.TheVariants.{Start, Ask, Again, Emit, Told, Wrong}

-- the line of an entry, as audits read it
abbrev pub deed_line : (conn : ℕ) → Event → Outcome → Text
deed_line conn deed outcome = print (json_tokens (entry_json conn (Did deed outcome))) ⋅ newline

-- the line before an ask writes into the store
abbrev pub about_line : (conn rate : ℕ) → Text
about_line conn rate = codes "{\"about\":" ⋅ decimal conn ⋅ codes ",\"ask\":\"" ⋅ code_text (code_of rate) ⋅ codes "\"}\n"

-- whether an ask of a source that is up writes: a number is left for it, and it has to write
abbrev pub will_write : SourceView → (rate : ℕ) → Bool
will_write source rate = nat_lt source.last number_max && has_to_write source rate

-- whether an ask of a source writes, which only one that is up does
abbrev pub writes_in : SourceState → SourceView → (rate : ℕ) → Bool
writes_in Down source rate = false
writes_in Idle source rate = will_write source rate
writes_in (Asking seq) source rate = will_write source rate

-- what is written before anything is done
abbrev pub before_line : (conn : ℕ) → ActorView → SourceAsked → Text
before_line conn actor (Ask rate) = if writes_in actor.state actor.source rate then about_line conn rate else []
before_line conn actor other = []

-- whether an outcome leaves open what the store has
abbrev pub is_open : Outcome → Bool
is_open (AskRefused Keep) = true
is_open other = false

-- what is written of an ask
abbrev pub ask_line : (conn rate : ℕ) → Outcome → Text
ask_line conn rate outcome = if is_open outcome then failed_line conn rate else deed_line conn (event.Ask conn rate Works) outcome

-- what is written of what was done, before it is answered
abbrev pub done_line : (conn : ℕ) → SourceAsked → Outcome → Text
done_line conn (Start now) outcome = deed_line conn (event.Start conn now) outcome
done_line conn (Ask rate) outcome = ask_line conn rate outcome
done_line conn Again outcome = deed_line conn (event.Again conn) outcome
done_line conn (Emit now) outcome = deed_line conn (event.Emit conn now) outcome
done_line conn (Told answer) outcome = deed_line conn (event.Told conn answer.terms.seq answer.granted) outcome
done_line conn (Wrong fault) outcome = []
