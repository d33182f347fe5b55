-- What plans may ask for, and what they print.
use Rattle.std.specs.Prelude.{◌≡◌, ℕ, ◌+◌, ◌≤◌, ◌⊎◌, ⊤, List, map, Option, Result, Ok, Err, IsOkAnd, String, string_bytes}
use Rattle.std.specs.Io.KnownBytes.{Appends, Keeps}
use Rattle.std.specs.declared.alloc.Global.{Global}
use Rattle.abt_rate.specs.Limits.{capacity_max, AreWorkers}
use Rattle.abt_text.specs.Text.{Text}
use Rattle.abt_text.specs.Streams.{AppendsPrefix, ConsumesAtMost, text_max}
use Rattle.abt_scenario.specs.Engine.{Reports, Leaves}
use Rattle.abt_scenario.specs.declared.engine.EngineFault.{EngineFault}
use Rattle.abt_perform.specs.Names.{fault_line, fault_of_engine}
use Rattle.abt_perform.specs.RateText.{rate_text}
use Rattle.abt_perform.specs.CellText.{cell_text}
use Rattle.abt_perform.specs.PortText.{port_text}
use Rattle.abt_perform.specs.declared.fault.Fault.{Fault}
use Rattle.abt_perform.specs.declared.fault.Fault.TheVariants.{Write, Memory}
use Rattle.abt_perform.specs.declared.plan.WordsFault.{WordsFault}
use Rattle.abt_perform.specs.declared.plan.WordsFault.TheVariants.{Words, Help}
use Rattle.abt_perform.specs.declared.plan.WordsFault.TheVariants as words_fault
use Rattle.abt_perform.specs.declared.plan.Plan.{Plan}
use Rattle.abt_perform.specs.declared.plan.Plan.TheVariants.{Rate, Cell, Port, Run, Threads}

abbrev pub IsWithinLimits : Plan → Type 0
IsWithinLimits (Port capacity cells) = capacity ≤ capacity_max
IsWithinLimits (Threads file workers) = AreWorkers workers
IsWithinLimits _ = ⊤

-- a plan for threads, and one that needs none
abbrev pub IsForThreads : Plan → Type 0
IsForThreads (Threads file workers) = ⊤
IsForThreads _ = ⊥

abbrev pub NeedsNoThreads : Plan → Type 0
NeedsNoThreads (Threads file workers) = ⊥
NeedsNoThreads _ = ⊤

-- the octets of some strings
abbrev pub texts_of : List (String Global) → List Text
texts_of texts = map string_bytes texts

-- a text, not seen by where it lies in memory
abbrev pub text_seen : Result (String Global) Fault → Result Text Fault
text_seen (Ok text) = Ok (string_bytes text)
text_seen (Err fault) = Err fault

-- what a plan that needs no threads prints went out, all of it, if this is what the reader had left
abbrev pub Prints : Plan → (left old new : Option Text) → Type 0
Prints (Rate code) left old new = IsOkAnd (rate_text (string_bytes code)) (Appends old new)
Prints (Cell hex) left old new = IsOkAnd (cell_text (string_bytes hex)) (Appends old new)
Prints (Port capacity cells) left old new = Appends old new (port_text capacity (texts_of cells.items))
Prints (Run file) left old new = Reports left old new
Prints (Threads file workers) left old new = ⊥

-- What went out if the text, or fault, that was to be printed isn't printed for this fault: a part of the text if the
-- output failed, and else nothing, since memory was refused, or there is no text.
abbrev pub EndsTextBy : Fault → Result Text Fault → Option Text → Option Text → Type 0
EndsTextBy fault exact old new =
    ((fault ≡ Write) × IsOkAnd exact (AppendsPrefix old new))
    ⊎ (((fault ≡ Memory) ⊎ (exact ≡ Err fault)) × Keeps old new)

-- What went out of a scenario's report that isn't printed for this fault.
pub record EndsRunBy (fault : Fault) (left old new : Option Text) : Type 0 where
  pub engine_fault : EngineFault
  pub named : fault ≡ fault_of_engine engine_fault
  pub leaves : Leaves engine_fault left old new

-- what went out of a plan's text if this fault ended it
abbrev pub EndsBy : Fault → Plan → (left old new : Option Text) → Type 0
EndsBy fault (Rate code) left old new = EndsTextBy fault (rate_text (string_bytes code)) old new
EndsBy fault (Cell hex) left old new = EndsTextBy fault (cell_text (string_bytes hex)) old new
EndsBy fault (Port capacity cells) left old new = EndsTextBy fault (Ok (port_text capacity (texts_of cells.items))) old new
EndsBy fault (Run file) left old new = EndsRunBy fault left old new
EndsBy fault (Threads file workers) left old new = ⊥

-- what a plan takes of the reader: nothing, but a scenario's text
abbrev pub ReadsFor : Plan → (old new : Option Text) → Type 0
ReadsFor (Run file) old new = ConsumesAtMost old new (text_max + 1)
ReadsFor (Threads file workers) old new = ConsumesAtMost old new (text_max + 1)
ReadsFor _ old new = Keeps old new

-- a text went out as far as the writer took it
abbrev pub Tells : Text → Option Text → Option Text → Type 0
Tells text old new = Appends old new text ⊎ AppendsPrefix old new text

-- A plan that isn't done: why, what went out of its text, and what was told.
pub record IsRefused (plan : Plan) (left old new errors_old errors_new : Option Text) : Type 0 where
  pub fault : Fault
  pub printed : EndsBy fault plan left old new
  pub told : Tells (fault_line fault) errors_old errors_new

-- What goes out if words are no plan: help, all of it, on standard output with status 0; what is told of words that
-- are refused on standard error with status 2; else a fault with status 1.
abbrev pub AnswersWords : WordsFault → ℕ → (old new errors_old errors_new : Option Text) → Type 0
AnswersWords (Words text) status old new errors_old errors_new =
    (status ≡ 2) × Keeps old new × Tells (string_bytes text) errors_old errors_new
AnswersWords (Help text) status old new errors_old errors_new =
    ((status ≡ 0) × Appends old new (string_bytes text) × Keeps errors_old errors_new)
    ⊎ ((status ≡ 1) × AppendsPrefix old new (string_bytes text) × Tells (fault_line Write) errors_old errors_new)
AnswersWords words_fault.Memory status old new errors_old errors_new =
    (status ≡ 1) × Keeps old new × Tells (fault_line Memory) errors_old errors_new
