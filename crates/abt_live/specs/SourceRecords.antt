-- The records of a source: what lines and cells ask for, and what is answered (docs/LIVE.md, "Cells as octets").
use Rattle.std.specs.Prelude.{◌≡◌, ◌==◌, ℕ, if◌then◌else◌, List, [], ◌∷◌, length, Option, None, Some}
use Rattle.abt_cell.specs.Codec.{read_of}
use Rattle.abt_cell.specs.Message.{Terms}
use Rattle.abt_cell.specs.declared.message.Rm.TheVariants as rm
use Rattle.abt_model.specs.declared.outcome.Outcome.{Outcome}
use Rattle.abt_model.specs.declared.outcome.Outcome.TheVariants.{Asked, Repeated}
use Rattle.abt_perform.specs.CellText.{message_or_fault}
use Rattle.abt_records.specs.Records.{is_cell}
use Rattle.abt_records.specs.Runs.{Steps}
use Rattle.abt_text.specs.Text.{Text}
use Rattle.abt_live.specs.declared.fault.LiveFault.TheVariants as fault
use Rattle.abt_live.specs.declared.source_answer.SourceAnswer.{SourceAnswer}
use Rattle.abt_live.specs.declared.source_answer.SourceAnswer.TheVariants.{Faulty, Did}
use Rattle.abt_live.specs.declared.source_asked.SourceAsked.{SourceAsked}
use Rattle.abt_live.specs.declared.source_asked.SourceAsked.TheVariants.{Wrong}
use Rattle.abt_live.specs.declared.source_lines.SourceLines.{SourceLines}
use Rattle.abt_live.specs.declared.source_records.SourceRecords.{SourceRecords}
use Rattle.abt_live.specs.Faults.{fault_line}
use Rattle.abt_live.specs.Marks.{cell_to, source_mark}
use Rattle.abt_live.specs.SourceAsked.{answer_in, asked_on}
use Rattle.abt_live.specs.SourceSaid.{outcome_said}
use Rattle.abt_live.specs.SourceSteps.{Does}

-- an answer comes behind the octet of a source; a cell that the end of the input cuts has fewer octets
abbrev pub cell_asked : Text → SourceAsked
cell_asked [] = Wrong fault.Cut
cell_asked (mark ∷ cell) =
    if length cell == 52 then (if mark == source_mark then answer_in (message_or_fault (read_of cell)) else Wrong fault.Port) else Wrong fault.Cut

-- what a record asks for: a cell, or a line
abbrev pub record_asked : Option Text → SourceAsked
record_asked None = asked_on None
record_asked (Some octets) = if is_cell octets then cell_asked octets else asked_on (Some octets)

-- an answer as a line
abbrev pub answer_text : SourceAnswer → Text
answer_text (Faulty fault) = fault_line fault
answer_text (Did clock outcome) = outcome_said clock outcome

-- the request that goes out, if one does
abbrev pub request_with : Outcome → Option Terms
request_with (Asked request) = Some request
request_with (Repeated request) = Some request
request_with other = None

abbrev pub request_in : SourceAnswer → Option Terms
request_in (Faulty fault) = None
request_in (Did clock outcome) = request_with outcome

-- a request as a cell, and else the line
abbrev pub sent_or_line : (first_port : ℕ) → Option Terms → (line : Text) → Text
sent_or_line first_port (Some request) line = cell_to first_port (rm.Request request) line
sent_or_line first_port None line = line

-- an answer as a record, if requests go to this port first
abbrev pub answer_record : (first_port : ℕ) → SourceAnswer → Text
answer_record first_port answer = sent_or_line first_port (request_in answer) (answer_text answer)

-- What was asked for is done as over lines, and the answer is said as a record.
pub record DoesRecord {K J : Type 0} (contents : J → Option Text) (old : SourceRecords K J) (asked : SourceAsked) (said : Text) (new : SourceRecords K J) : Type 0 where
  pub answer : SourceAnswer
  pub does : Does contents old.lines asked (answer_text answer) new.lines
  pub says : said ≡ answer_record old.first_port answer
  pub first_port : new.first_port ≡ old.first_port

-- the steps of a source over records
abbrev pub SourcesRecord : {K J : Type 0} → (contents : J → Option Text) → Steps (SourceRecords K J)
SourcesRecord contents old seen said new = DoesRecord contents old (record_asked seen) said new
