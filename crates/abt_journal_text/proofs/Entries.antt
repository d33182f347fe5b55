-- The line of an entry of a source says that entry.
use Rattle.std.proofs.Common.{◌≡◌, ℕ, ◌<◌, ◌≤◌, ◌^◌, [], ◌∷◌, refl, sym, ap, arith, Bool, false}
use Rattle.std.specs.Prelude.{Some, Ok}
use Rattle.std.specs.Str.{IsUtf8}
use Rattle.json.proofs.Printed.Utf8.{IsUtf8-are_ascii}
use Rattle.json.specs.Json.{max_depth}
use Rattle.json.specs.Strict.{HasUniqueKeys}
use Rattle.json.specs.Tree.{depth}
use Rattle.abt_keep.specs.declared.plan.StorePlan.{StorePlan}
use Rattle.abt_keep.specs.declared.plan.StorePlan.TheVariants as plan
use Rattle.abt_model.specs.declared.event.Event.{Event}
use Rattle.abt_model.specs.declared.event.Event.TheVariants as event
use Rattle.abt_model.specs.declared.outcome.Cause.{Cause}
use Rattle.abt_model.specs.declared.outcome.Cause.TheVariants as cause
use Rattle.abt_model.specs.declared.outcome.Heard.{Heard}
use Rattle.abt_model.specs.declared.outcome.Heard.TheVariants as heard
use Rattle.abt_model.specs.declared.outcome.Outcome.{Outcome}
use Rattle.abt_model.specs.declared.outcome.Outcome.TheVariants as outcome
use Rattle.abt_format.specs.Names.{cause_name, heard_name, start_fault_name, ask_fault_name}
use Rattle.abt_shaper.specs.declared.fault.ShapeFault.{ShapeFault}
use Rattle.abt_shaper.specs.declared.fault.ShapeFault.TheVariants as shape
use Rattle.abt_source.specs.declared.fault.AskFault.{AskFault}
use Rattle.abt_source.specs.declared.fault.AskFault.TheVariants as ask
use Rattle.abt_source.specs.declared.fault.StartFault.{StartFault}
use Rattle.abt_source.specs.declared.fault.StartFault.TheVariants as start
use Rattle.abt_model.specs.declared.entry.SourceEntry.{SourceEntry}
use Rattle.abt_model.specs.declared.entry.SourceEntry.TheVariants as entry
use Rattle.abt_entry.specs.Reading.{needed}
use Rattle.abt_entry.specs.declared.member.Member.TheVariants as of
use Rattle.abt_entry.specs.Lines.{Says, line_in, source_line}
use Rattle.abt_entry.specs.SourceLines.{did_in, outcome_in, leaves_open}
use Rattle.abt_entry.specs.Words.{plan_name, plan_of, heard_of, cause_of, start_fault_of, ask_fault_of}
use Rattle.abt_entry.specs.declared.line.Line.TheVariants as line
use Rattle.abt_entry.specs.EntryWritten.{did_json, outcome_json, entry_json}
use Rattle.abt_journal_text.specs.NetJson.{line_of}
use Rattle.abt_journal_text.specs.Tellable.{IsDeed, CanCome, IsEntry}
use Rattle.abt_journal_text.proofs.Plain.{IsPlainJson, read_back}
use Rattle.abt_journal_text.proofs.Keys.{distinct_names, name_utf8}
use Rattle.abt_journal_text.proofs.Readings.{then_read, whole_back, rate_back, rate_utf8, request_back}
use Rattle.abt_journal_text.proofs.Steps.{request_plain, request_unique}

plan_back : (p : StorePlan) → plan_of (plan_name p) ≡ Some p
plan_back plan.Works = refl
plan_back plan.FailsBefore = refl
plan_back plan.FailsAfter = refl

heard_back : (h : Heard) → heard_of (heard_name h) ≡ Some h
heard_back heard.Raised = refl
heard_back heard.Refused = refl
heard_back heard.Ignored = refl

cause_back : (c : Cause) → cause_of (cause_name c) ≡ Some c
cause_back cause.Down = refl
cause_back cause.Running = refl
cause_back cause.NotSent = refl
cause_back cause.Fenced = refl
cause_back cause.Delay = refl
cause_back cause.ClockBack = refl
cause_back cause.Unknown = refl
cause_back cause.NotAsking = refl

start_back : (f : StartFault) → start_fault_of (start_fault_name f) ≡ Some f
start_back start.Keep = refl
start_back start.TimeRange = refl

ask_back : (f : AskFault) → ask_fault_of (ask_fault_name f) ≡ Some f
ask_back ask.SeqExhausted = refl
ask_back ask.Keep = refl

did_back : (conn : ℕ) (deed : Event) → IsDeed conn deed → did_in conn (did_json deed) ≡ Ok deed
did_back conn (event.Start c now) is =
    then_read _ now _ _ (whole_back (2 ^ 64) now of.Start is.1 (omega arith)) (ap (λ (n : ℕ). Ok (event.Start n now)) (sym is.0))
did_back conn (event.Ask c rate plan) is =
    then_read _ rate _ _ (rate_back rate of.Ask is.1)
    (then_read _ plan _ _ (ap (needed of.Store) (plan_back plan)) (ap (λ (n : ℕ). Ok (event.Ask n rate plan)) (sym is.0)))
did_back conn (event.Again c) is = ap (λ (n : ℕ). Ok (event.Again n)) (sym is)
did_back conn (event.Crash c) is = ap (λ (n : ℕ). Ok (event.Crash n)) (sym is)
did_back conn (event.Emit c now) is =
    then_read _ now _ _ (whole_back (2 ^ 64) now of.Emit is.1 (omega arith)) (ap (λ (n : ℕ). Ok (event.Emit n now)) (sym is.0))
did_back conn (event.Told c seq granted) is =
    then_read _ seq _ _ (whole_back (2 ^ 32) seq of.Told is.1 (omega arith)) (ap (λ (n : ℕ). Ok (event.Told n seq granted)) (sym is.0))
did_back conn (event.Arrive c cell at) is = absurd is
did_back conn (event.Request c hop seq) is = absurd is
did_back conn (event.Turn c seq) is = absurd is
did_back conn (event.Answer c hop seq granted) is = absurd is
did_back conn (event.Capacity p units) is = absurd is

emit_back : (c now : ℕ) (fault : ShapeFault) → CanCome (event.Emit c now) (outcome.EmitRefused fault)
    → outcome_in (event.Emit c now) (outcome_json (outcome.EmitRefused fault)) ≡ Ok (outcome.EmitRefused fault)
emit_back c now shape.ClockBack is = refl
emit_back c now shape.TimeRange is = refl
emit_back c now shape.Zero is = refl
emit_back c now (shape.TooSoon next) is =
    then_read _ (shape.TooSoon next) _ _ (then_read _ next _ _ (whole_back (2 ^ 64) next of.TooSoon is.1 (omega arith)) refl) refl

outcome_back : (deed : Event) (came : Outcome) → CanCome deed came → outcome_in deed (outcome_json came) ≡ Ok came
outcome_back deed outcome.Started is = refl
outcome_back deed outcome.Crashed is = refl
outcome_back deed (outcome.Asked q) is = then_read _ q _ _ (request_back q of.Asked is) refl
outcome_back deed (outcome.Repeated q) is = then_read _ q _ _ (request_back q of.Again is) refl
outcome_back deed (outcome.Emitted cell next) is =
    then_read _ cell _ _ (whole_back (2 ^ 64) cell of.Cell is.0 (omega arith)) (then_read _ next _ _ (whole_back (2 ^ 64) next of.Next is.1 (omega arith)) refl)
outcome_back deed (outcome.Told h) is = then_read _ h _ _ (ap (needed of.Told) (heard_back h)) refl
outcome_back deed (outcome.NotEnabled c) is = then_read _ c _ _ (ap (needed of.NotEnabled) (cause_back c)) refl
outcome_back (event.Start c now) (outcome.StartRefused f) is = then_read _ f _ _ (ap (needed of.Refused) (start_back f)) refl
outcome_back (event.Ask c rate plan) (outcome.StartRefused f) is = absurd is
outcome_back (event.Again c) (outcome.StartRefused f) is = absurd is
outcome_back (event.Crash c) (outcome.StartRefused f) is = absurd is
outcome_back (event.Emit c now) (outcome.StartRefused f) is = absurd is
outcome_back (event.Arrive c cell at) (outcome.StartRefused f) is = absurd is
outcome_back (event.Request c hop seq) (outcome.StartRefused f) is = absurd is
outcome_back (event.Turn c seq) (outcome.StartRefused f) is = absurd is
outcome_back (event.Answer c hop seq granted) (outcome.StartRefused f) is = absurd is
outcome_back (event.Told c seq granted) (outcome.StartRefused f) is = absurd is
outcome_back (event.Capacity p units) (outcome.StartRefused f) is = absurd is
outcome_back (event.Start c now) (outcome.AskRefused f) is = absurd is
outcome_back (event.Ask c rate plan) (outcome.AskRefused f) is = then_read _ f _ _ (ap (needed of.Refused) (ask_back f)) refl
outcome_back (event.Again c) (outcome.AskRefused f) is = absurd is
outcome_back (event.Crash c) (outcome.AskRefused f) is = absurd is
outcome_back (event.Emit c now) (outcome.AskRefused f) is = absurd is
outcome_back (event.Arrive c cell at) (outcome.AskRefused f) is = absurd is
outcome_back (event.Request c hop seq) (outcome.AskRefused f) is = absurd is
outcome_back (event.Turn c seq) (outcome.AskRefused f) is = absurd is
outcome_back (event.Answer c hop seq granted) (outcome.AskRefused f) is = absurd is
outcome_back (event.Told c seq granted) (outcome.AskRefused f) is = absurd is
outcome_back (event.Capacity p units) (outcome.AskRefused f) is = absurd is
outcome_back (event.Start c now) (outcome.EmitRefused f) is = absurd is.0
outcome_back (event.Ask c rate plan) (outcome.EmitRefused f) is = absurd is.0
outcome_back (event.Again c) (outcome.EmitRefused f) is = absurd is.0
outcome_back (event.Crash c) (outcome.EmitRefused f) is = absurd is.0
outcome_back (event.Emit c now) (outcome.EmitRefused f) is = emit_back c now f is
outcome_back (event.Arrive c cell at) (outcome.EmitRefused f) is = absurd is.0
outcome_back (event.Request c hop seq) (outcome.EmitRefused f) is = absurd is.0
outcome_back (event.Turn c seq) (outcome.EmitRefused f) is = absurd is.0
outcome_back (event.Answer c hop seq granted) (outcome.EmitRefused f) is = absurd is.0
outcome_back (event.Told c seq granted) (outcome.EmitRefused f) is = absurd is.0
outcome_back (event.Capacity p units) (outcome.EmitRefused f) is = absurd is.0
outcome_back deed (outcome.Arrived v) is = absurd is
outcome_back deed (outcome.Requested o) is = absurd is
outcome_back deed outcome.Turned is = absurd is
outcome_back deed (outcome.Answered b) is = absurd is
outcome_back deed outcome.CapacitySet is = absurd is
outcome_back deed (outcome.CapacityRefused f) is = absurd is

-- what is written leaves nothing open
never_open : (deed : Event) (came : Outcome) → leaves_open deed came (did_json deed) ≡ false
never_open (event.Start c now) came = refl
never_open (event.Ask c rate plan.Works) came = refl
never_open (event.Ask c rate plan.FailsBefore) came = refl
never_open (event.Ask c rate plan.FailsAfter) came = refl
never_open (event.Again c) came = refl
never_open (event.Crash c) came = refl
never_open (event.Emit c now) came = refl
never_open (event.Arrive c cell at) came = refl
never_open (event.Request c hop seq) came = refl
never_open (event.Turn c seq) came = refl
never_open (event.Answer c hop seq granted) came = refl
never_open (event.Told c seq granted) came = refl
never_open (event.Capacity p units) came = refl

entry_back : (conn : ℕ) (one : SourceEntry) → conn < 2 ^ 16 → IsEntry conn one → line_in (entry_json conn one) ≡ Ok (line.Source conn one)
entry_back conn (entry.Did deed came) low is =
    then_read _ conn _ _ (whole_back (2 ^ 16) conn of.Source low (omega arith))
    (then_read _ (entry.Did deed came) _ _
    (then_read _ deed _ _ (did_back conn deed is.0) (then_read _ came _ _ (outcome_back deed came is.1) refl))
    (ap (λ (b : Bool). Ok (source_line b conn (entry.Did deed came))) (never_open deed came)))
entry_back conn (entry.Sent place) low is =
    then_read _ conn _ _ (whole_back (2 ^ 16) conn of.Source low (omega arith))
    (then_read _ (entry.Sent place) _ _ (then_read _ place _ _ (whole_back (2 ^ 64) place of.Sent is (omega arith)) refl) refl)
entry_back conn (entry.Arrived cell place) low is =
    then_read _ conn _ _ (whole_back (2 ^ 16) conn of.Source low (omega arith))
    (then_read _ (entry.Arrived cell place) _ _
    (then_read _ cell _ _ (whole_back (2 ^ 64) cell of.Cell is.0 (omega arith)) (then_read _ place _ _ (whole_back (2 ^ 64) place of.Place is.1 (omega arith)) refl)) refl)

plan_utf8 : (p : StorePlan) → IsUtf8 (plan_name p)
plan_utf8 plan.Works = IsUtf8-are_ascii _ refl
plan_utf8 plan.FailsBefore = IsUtf8-are_ascii _ refl
plan_utf8 plan.FailsAfter = IsUtf8-are_ascii _ refl

heard_utf8 : (h : Heard) → IsUtf8 (heard_name h)
heard_utf8 heard.Raised = IsUtf8-are_ascii _ refl
heard_utf8 heard.Refused = IsUtf8-are_ascii _ refl
heard_utf8 heard.Ignored = IsUtf8-are_ascii _ refl

cause_utf8 : (c : Cause) → IsUtf8 (cause_name c)
cause_utf8 cause.Down = IsUtf8-are_ascii _ refl
cause_utf8 cause.Running = IsUtf8-are_ascii _ refl
cause_utf8 cause.NotSent = IsUtf8-are_ascii _ refl
cause_utf8 cause.Fenced = IsUtf8-are_ascii _ refl
cause_utf8 cause.Delay = IsUtf8-are_ascii _ refl
cause_utf8 cause.ClockBack = IsUtf8-are_ascii _ refl
cause_utf8 cause.Unknown = IsUtf8-are_ascii _ refl
cause_utf8 cause.NotAsking = IsUtf8-are_ascii _ refl

start_utf8 : (f : StartFault) → IsUtf8 (start_fault_name f)
start_utf8 start.Keep = IsUtf8-are_ascii _ refl
start_utf8 start.TimeRange = IsUtf8-are_ascii _ refl

ask_utf8 : (f : AskFault) → IsUtf8 (ask_fault_name f)
ask_utf8 ask.SeqExhausted = IsUtf8-are_ascii _ refl
ask_utf8 ask.Keep = IsUtf8-are_ascii _ refl

did_plain : (conn : ℕ) (deed : Event) → IsDeed conn deed → IsPlainJson (did_json deed)
did_plain conn (event.Start c now) is = (name_utf8 of.Start, (now, is.1, refl), tt)
did_plain conn (event.Ask c rate plan) is = (name_utf8 of.Ask, rate_utf8 rate, (name_utf8 of.Store, plan_utf8 plan, tt))
did_plain conn (event.Again c) is = IsUtf8-are_ascii _ refl
did_plain conn (event.Crash c) is = IsUtf8-are_ascii _ refl
did_plain conn (event.Emit c now) is = (name_utf8 of.Emit, (now, is.1, refl), tt)
did_plain conn (event.Arrive c cell at) is = absurd is
did_plain conn (event.Request c hop seq) is = absurd is
did_plain conn (event.Turn c seq) is = absurd is
did_plain conn (event.Answer c hop seq granted) is = absurd is
did_plain conn (event.Told c seq granted) is = (name_utf8 of.Told, (seq, omega (arith, is.1), refl), (name_utf8 of.Granted, tt, tt))
did_plain conn (event.Capacity p units) is = absurd is

did_unique : (deed : Event) → HasUniqueKeys (did_json deed)
did_unique (event.Start c now) = (distinct_names (of.Start ∷ []) refl, (tt, tt))
did_unique (event.Ask c rate plan) = (distinct_names (of.Ask ∷ of.Store ∷ []) refl, (tt, (tt, tt)))
did_unique (event.Again c) = tt
did_unique (event.Crash c) = tt
did_unique (event.Emit c now) = (distinct_names (of.Emit ∷ []) refl, (tt, tt))
did_unique (event.Arrive c cell at) = tt
did_unique (event.Request c hop seq) = tt
did_unique (event.Turn c seq) = tt
did_unique (event.Answer c hop seq granted) = tt
did_unique (event.Told c seq granted) = (distinct_names (of.Told ∷ of.Granted ∷ []) refl, (tt, (tt, tt)))
did_unique (event.Capacity p units) = tt

did_depth : (deed : Event) → depth (did_json deed) ≤ 2
did_depth (event.Start c now) = omega arith
did_depth (event.Ask c rate plan) = omega arith
did_depth (event.Again c) = omega arith
did_depth (event.Crash c) = omega arith
did_depth (event.Emit c now) = omega arith
did_depth (event.Arrive c cell at) = omega arith
did_depth (event.Request c hop seq) = omega arith
did_depth (event.Turn c seq) = omega arith
did_depth (event.Answer c hop seq granted) = omega arith
did_depth (event.Told c seq granted) = omega arith
did_depth (event.Capacity p units) = omega arith

outcome_plain : (deed : Event) (came : Outcome) → CanCome deed came → IsPlainJson (outcome_json came)
outcome_plain deed outcome.Started is = IsUtf8-are_ascii _ refl
outcome_plain deed (outcome.StartRefused f) is = (name_utf8 of.Refused, start_utf8 f, tt)
outcome_plain deed (outcome.Asked q) is = (name_utf8 of.Asked, request_plain q is, tt)
outcome_plain deed (outcome.AskRefused f) is = (name_utf8 of.Refused, ask_utf8 f, tt)
outcome_plain deed (outcome.Repeated q) is = (name_utf8 of.Again, request_plain q is, tt)
outcome_plain deed outcome.Crashed is = IsUtf8-are_ascii _ refl
outcome_plain deed (outcome.Emitted cell next) is = (name_utf8 of.Emitted, (name_utf8 of.Cell, (cell, is.0, refl), (name_utf8 of.Next, (next, is.1, refl), tt)), tt)
outcome_plain deed (outcome.EmitRefused shape.ClockBack) is = (name_utf8 of.Refused, IsUtf8-are_ascii _ refl, tt)
outcome_plain deed (outcome.EmitRefused shape.TimeRange) is = (name_utf8 of.Refused, IsUtf8-are_ascii _ refl, tt)
outcome_plain deed (outcome.EmitRefused shape.Zero) is = (name_utf8 of.Refused, IsUtf8-are_ascii _ refl, tt)
outcome_plain deed (outcome.EmitRefused (shape.TooSoon next)) is = (name_utf8 of.Refused, (name_utf8 of.TooSoon, (next, is.1, refl), tt), tt)
outcome_plain deed (outcome.Told h) is = (name_utf8 of.Told, heard_utf8 h, tt)
outcome_plain deed (outcome.NotEnabled c) is = (name_utf8 of.NotEnabled, cause_utf8 c, tt)
outcome_plain deed (outcome.Arrived v) is = absurd is
outcome_plain deed (outcome.Requested o) is = absurd is
outcome_plain deed outcome.Turned is = absurd is
outcome_plain deed (outcome.Answered b) is = absurd is
outcome_plain deed outcome.CapacitySet is = absurd is
outcome_plain deed (outcome.CapacityRefused f) is = absurd is

outcome_unique : (came : Outcome) → HasUniqueKeys (outcome_json came)
outcome_unique outcome.Started = tt
outcome_unique (outcome.StartRefused f) = (distinct_names (of.Refused ∷ []) refl, (tt, tt))
outcome_unique (outcome.Asked q) = (distinct_names (of.Asked ∷ []) refl, (request_unique q, tt))
outcome_unique (outcome.AskRefused f) = (distinct_names (of.Refused ∷ []) refl, (tt, tt))
outcome_unique (outcome.Repeated q) = (distinct_names (of.Again ∷ []) refl, (request_unique q, tt))
outcome_unique outcome.Crashed = tt
outcome_unique (outcome.Emitted cell next) = (distinct_names (of.Emitted ∷ []) refl, ((distinct_names (of.Cell ∷ of.Next ∷ []) refl, (tt, (tt, tt))), tt))
outcome_unique (outcome.EmitRefused shape.ClockBack) = (distinct_names (of.Refused ∷ []) refl, (tt, tt))
outcome_unique (outcome.EmitRefused shape.TimeRange) = (distinct_names (of.Refused ∷ []) refl, (tt, tt))
outcome_unique (outcome.EmitRefused shape.Zero) = (distinct_names (of.Refused ∷ []) refl, (tt, tt))
outcome_unique (outcome.EmitRefused (shape.TooSoon next)) = (distinct_names (of.Refused ∷ []) refl, ((distinct_names (of.TooSoon ∷ []) refl, (tt, tt)), tt))
outcome_unique (outcome.Told h) = (distinct_names (of.Told ∷ []) refl, (tt, tt))
outcome_unique (outcome.NotEnabled c) = (distinct_names (of.NotEnabled ∷ []) refl, (tt, tt))
outcome_unique (outcome.Arrived v) = tt
outcome_unique (outcome.Requested o) = tt
outcome_unique outcome.Turned = tt
outcome_unique (outcome.Answered b) = tt
outcome_unique outcome.CapacitySet = tt
outcome_unique (outcome.CapacityRefused f) = tt

outcome_depth : (came : Outcome) → depth (outcome_json came) ≤ 2
outcome_depth outcome.Started = omega arith
outcome_depth (outcome.StartRefused f) = omega arith
outcome_depth (outcome.Asked q) = omega arith
outcome_depth (outcome.AskRefused f) = omega arith
outcome_depth (outcome.Repeated q) = omega arith
outcome_depth outcome.Crashed = omega arith
outcome_depth (outcome.Emitted cell next) = omega arith
outcome_depth (outcome.EmitRefused shape.ClockBack) = omega arith
outcome_depth (outcome.EmitRefused shape.TimeRange) = omega arith
outcome_depth (outcome.EmitRefused shape.Zero) = omega arith
outcome_depth (outcome.EmitRefused (shape.TooSoon next)) = omega arith
outcome_depth (outcome.Told h) = omega arith
outcome_depth (outcome.NotEnabled c) = omega arith
outcome_depth (outcome.Arrived v) = omega arith
outcome_depth (outcome.Requested o) = omega arith
outcome_depth outcome.Turned = omega arith
outcome_depth (outcome.Answered b) = omega arith
outcome_depth outcome.CapacitySet = omega arith
outcome_depth (outcome.CapacityRefused f) = omega arith

pub entry_plain : (conn : ℕ) (one : SourceEntry) → conn < 2 ^ 16 → IsEntry conn one → IsPlainJson (entry_json conn one)
entry_plain conn (entry.Did deed came) low is =
    (name_utf8 of.Source, (conn, omega (arith, low), refl), (name_utf8 of.Did, did_plain conn deed is.0, (name_utf8 of.Outcome, outcome_plain deed came is.1, tt)))
entry_plain conn (entry.Sent place) low is = (name_utf8 of.Source, (conn, omega (arith, low), refl), (name_utf8 of.Sent, (place, is, refl), tt))
entry_plain conn (entry.Arrived cell place) low is =
    (name_utf8 of.Source, (conn, omega (arith, low), refl), (name_utf8 of.Arrived, (name_utf8 of.Cell, (cell, is.0, refl), (name_utf8 of.Place, (place, is.1, refl), tt)), tt))

entry_depth : (conn : ℕ) (one : SourceEntry) → depth (entry_json conn one) ≤ max_depth
entry_depth conn (entry.Did deed came) = omega (arith, did_depth deed, outcome_depth came)
entry_depth conn (entry.Sent place) = omega arith
entry_depth conn (entry.Arrived cell place) = omega arith

entry_unique : (conn : ℕ) (one : SourceEntry) → HasUniqueKeys (entry_json conn one)
entry_unique conn (entry.Did deed came) = (distinct_names (of.Source ∷ of.Did ∷ of.Outcome ∷ []) refl, (tt, (did_unique deed, (outcome_unique came, tt))))
entry_unique conn (entry.Sent place) = (distinct_names (of.Source ∷ of.Sent ∷ []) refl, (tt, (tt, tt)))
entry_unique conn (entry.Arrived cell place) = (distinct_names (of.Source ∷ of.Arrived ∷ []) refl, (tt, ((distinct_names (of.Cell ∷ of.Place ∷ []) refl, (tt, (tt, tt))), tt)))

pub entry_says : (conn : ℕ) (one : SourceEntry) → conn < 2 ^ 16 → IsEntry conn one → Says (line_of (entry_json conn one)) (line.Source conn one)
entry_says conn one low is = record {
  json = entry_json conn one;
  read = read_back (entry_json conn one) (entry_plain conn one low is) (entry_depth conn one);
  unique = entry_unique conn one;
  is = entry_back conn one low is;
}
