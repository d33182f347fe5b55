-- A policer that is handed arrivals line by line (docs/FORMATS.md, "Parts by hand").
use Rattle.std.specs.Prelude.{◌≡◌, ℕ, ◌-◌, nat_lt, if◌then◌else◌, List, [], Option, Some, None, codes}
use Rattle.abt_rate.specs.Limits.{arrive_max}
use Rattle.abt_gcra.specs.declared.verdict.Verdict.{Verdict}
use Rattle.abt_gcra.specs.Policing.{Policing, due_at, policed}
use Rattle.abt_text.specs.Text.{Text, ◌⋅◌, decimal}
use Rattle.abt_format.specs.Names.{verdict_name}
use Rattle.abt_lines.specs.Runs.{Ends, Steps}
use Rattle.abt_parts.specs.declared.fault.LineFault.TheVariants.{ClockBack, TimeRange}
use Rattle.abt_parts.specs.declared.police.PolicedLines.{PolicedLines}
use Rattle.abt_parts.specs.Lines.{IsAnswer, answers_of, fault_text, moment_of, past_moment, to_moment}

-- a theoretical arrival time, which is absent until a cell was taken
abbrev pub tat_text : Option ℕ → Text
tat_text (Some moment) = decimal moment
tat_text None = codes "absent"

-- how much earlier than due a cell comes, and 0 if it doesn't
abbrev pub early_of : Policing → ℕ → ℕ
early_of policing at = due_at policing at - at

-- a cell's arrival, its verdict, how early it came, and the theoretical arrival time before it and after it
abbrev pub verdict_text : Policing → ℕ → Verdict × Policing → Text
verdict_text before at judged =
    codes "at " ⋅ decimal at ⋅ codes " " ⋅ verdict_name judged.0 ⋅ codes " early " ⋅ decimal (early_of before at) ⋅
    codes " tat " ⋅ tat_text before.tat ⋅ codes " then " ⋅ tat_text judged.1.tat

-- a cell that arrives where a rate is held: before the clock or too late it has a fault, and changes nothing
abbrev pub arrival_text : Policing → (held at : ℕ) → Text
arrival_text policing held at =
    if nat_lt at policing.clock then fault_text ClockBack
    else if nat_lt arrive_max at then fault_text TimeRange
    else verdict_text policing at (policed policing at held)

abbrev pub past_arrival : Policing → (held at : ℕ) → Policing
past_arrival policing held at =
    if nat_lt at policing.clock then policing
    else if nat_lt arrive_max at then policing
    else (policed policing at held).1

-- the answer to a line, and the policer then
abbrev pub policed_text : (held : ℕ) → Policing → Option Text → Text
policed_text held policing line = to_moment (arrival_text policing held) (moment_of line)

abbrev pub policed_past : (held : ℕ) → Policing → Option Text → Policing
policed_past held policing line = past_moment (past_arrival policing held) policing (moment_of line)

-- the steps of a policer over lines, whose rate stays; nothing is said behind the last
abbrev pub PolicesLine : Steps PolicedLines
PolicesLine old number line said new =
    IsAnswer (policed_text old.held) (policed_past old.held) old.policer number line said new.policer × (new.held ≡ old.held)

abbrev pub EndsPolicing : Ends PolicedLines
EndsPolicing last number said = said ≡ []

-- the answers to some lines, the first of this number; nothing is said behind the last
abbrev pub policed_lines : (held : ℕ) → Policing → ℕ → List (Option Text) → Text
policed_lines held = answers_of (policed_text held) (policed_past held) (λ _. [])
