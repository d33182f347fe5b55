-- What the test of a scenario's expectations prints, by the Test Anything Protocol, version 13 (docs/FORMATS.md, "Expected outcomes").
use Rattle.std.specs.Prelude.{◌≡◌, ◌⊎◌, ℕ, ◌+◌, ◌==◌, ◌||◌, not, Bool, true, false, if◌then◌else◌, List, [], ◌∷◌, length, map, Option, Some, None, Ok, Err, codes, string_bytes}
use Rattle.std.specs.Str.{bytes_eq, chars, encode_utf8_all}
use Rattle.abt_files.specs.Shown.{shown_letter}
use Rattle.abt_format.specs.OutcomeText.{outcome_text}
use Rattle.abt_model.specs.Run.{outcomes_of}
use Rattle.abt_model.specs.declared.outcome.Outcome.{Outcome}
use Rattle.abt_scenario.specs.Scenarios.{Reads}
use Rattle.abt_scenario.specs.declared.scenario.Scenario.{Scenario}
use Rattle.abt_text.specs.Text.{Text, ◌⋅◌, newline, decimal}
use Rattle.toml.specs.Data.{Data}
use Rattle.abt_check.specs.Check.{AreFaultsOf, IsCheckOf}
use Rattle.abt_check.specs.Expectations.{expect_in, expectations_of}
use Rattle.abt_check.specs.Located as lines
use Rattle.abt_check.specs.OutcomeWords.{is_empty}
use Rattle.abt_check.specs.Performed.{has_some}
use Rattle.abt_check.specs.declared.expectations.ExpectFault.{ExpectFault}
use Rattle.abt_check.specs.declared.expectations.ExpectFault.TheVariants.{NoArray, NoText, NoOutcome, Count, Memory}
use Rattle.abt_check.specs.declared.finding.Checked.{Checked}
use Rattle.abt_check.specs.declared.finding.Found.{Found}

-- the name of a test: that of its file as it is shown, where no `#` (35) stands, which would begin a directive
abbrev pub title_letter : ℕ → ℕ
title_letter letter = if letter == 35 then 63 else shown_letter letter

abbrev pub title_of : (name : Text) → Text
title_of name = encode_utf8_all (map title_letter (chars name))

-- what stands at the front of each diagnostic line
abbrev pub mark_of : (name : Text) → Text
mark_of name = codes "# " ⋅ title_of name

-- an outcome is as expected; an empty text expects any
abbrev pub is_expected : (expected answered : Text) → Bool
is_expected expected answered = is_empty expected || bytes_eq expected answered

-- the line of an event with another outcome
abbrev pub difference_line : (number : ℕ) → (expected answered : Text) → Text
difference_line number expected answered =
    if is_expected expected answered then []
    else codes "# event " ⋅ decimal number ⋅ codes ": expected " ⋅ expected ⋅ codes ", got " ⋅ answered ⋅ newline

-- the same of all events, the first of this number
abbrev pub difference_lines : (number : ℕ) → List Outcome → (expected : List Text) → Text
difference_lines number (outcome ∷ outcomes) (text ∷ texts) =
    difference_line number text (outcome_text outcome) ⋅ difference_lines (number + 1) outcomes texts
difference_lines number _ _ = []

-- a fault of the expectations, by its name and in words
abbrev pub fault_words : ExpectFault → Text
fault_words NoArray = codes "WrongType expect: an array of texts is wanted"
fault_words (NoText number) = codes "ExpectText " ⋅ decimal number ⋅ codes ": a text is wanted"
fault_words (NoOutcome number) = codes "ExpectText " ⋅ decimal number ⋅ codes ": no outcome is written so"
fault_words (Count events texts) =
    codes "ExpectCount: " ⋅ decimal texts ⋅ codes " texts stand there for " ⋅ decimal events ⋅ codes " events"
fault_words Memory = codes "memory"

abbrev pub fault_line : (mark source : Text) → Option ℕ → ExpectFault → Text
fault_line mark source at fault = lines.located mark source at ⋅ codes "fault: " ⋅ fault_words fault ⋅ newline

-- The line of a fault, maybe with its place.
pub record IsFaultLine (mark source : Text) (fault : ExpectFault) (line : Text) : Type 0 where
  pub at : Option ℕ
  pub told : line ≡ fault_line mark source at fault

-- The text is no scenario: its faults are told.
pub record IsNoScenario (mark source diagnosis : Text) : Type 0 where
  pub faults : List Found
  pub some : has_some faults ≡ true
  pub are_faults : AreFaultsOf source faults
  pub told : diagnosis ≡ lines.fault_lines mark source faults

-- What stands at `expect` can't be compared with the events: its first fault is told, and maybe where.
pub record IsMisfit (mark source diagnosis : Text) : Type 0 where
  pub scenario : Scenario
  pub read : Reads source (Ok scenario)
  pub value : Data
  pub stands : expect_in source ≡ Some value
  pub fault : ExpectFault
  pub is_fault : expectations_of (length scenario.events) value ≡ Err fault
  pub told : IsFaultLine mark source fault diagnosis

-- Each event whose outcome isn't the expected one is told, and nothing if there is none.
pub record IsCompared (source diagnosis : Text) : Type 0 where
  pub scenario : Scenario
  pub read : Reads source (Ok scenario)
  pub value : Data
  pub stands : expect_in source ≡ Some value
  pub texts : List Text
  pub are_texts : expectations_of (length scenario.events) value ≡ Ok texts
  pub told : diagnosis ≡ difference_lines 1 (outcomes_of scenario.net scenario.events) texts

-- The warnings of a check of the text are told. Which these are isn't said, so none may be.
pub record AreDoubts (mark source diagnosis : Text) : Type 0 where
  pub checked : Checked
  pub is_check : IsCheckOf source checked
  pub told : diagnosis ≡ lines.warning_lines mark source checked.warnings.items

-- Nothing is expected: what is doubtful in the text is told.
pub record IsSkipped (mark source diagnosis : Text) : Type 0 where
  pub scenario : Scenario
  pub read : Reads source (Ok scenario)
  pub none : expect_in source ≡ None
  pub doubts : AreDoubts mark source diagnosis

-- what is found in a text, and whether it is skipped
abbrev pub IsDiagnosis : (mark source : Text) → (skipped : Bool) → (diagnosis : Text) → Type 0
IsDiagnosis mark source true diagnosis = IsSkipped mark source diagnosis
IsDiagnosis mark source false diagnosis =
    IsNoScenario mark source diagnosis ⊎ IsMisfit mark source diagnosis ⊎ IsCompared source diagnosis

-- the first test has the plan of all before it
abbrev pub plan : (count number : ℕ) → Text
plan count number = if number == 1 then codes "TAP version 13\n1.." ⋅ decimal count ⋅ newline else []

-- nothing is wrong if nothing is expected, or nothing is told
abbrev pub verdict : (skipped : Bool) → (diagnosis : Text) → Text
verdict skipped diagnosis = if skipped || is_empty diagnosis then codes "ok " else codes "not ok "

abbrev pub directive : (skipped : Bool) → Text
directive skipped = if skipped then codes " # SKIP it has no `expect`" else []

-- a test of this number among so many: whether all is as expected, its name, and what isn't
abbrev pub test_text : (count number : ℕ) → (name : Text) → (skipped : Bool) → (diagnosis : Text) → Text
test_text count number name skipped diagnosis =
    plan count number ⋅ verdict skipped diagnosis ⋅ decimal number ⋅ codes " - " ⋅ title_of name ⋅ directive skipped ⋅ newline ⋅ diagnosis
