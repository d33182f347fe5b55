-- How a check is told, line by line (docs/FORMATS.md, "Checks").
use Rattle.std.specs.Prelude.{ℕ, ◌==◌, if◌then◌else◌, List, [], ◌∷◌, length, codes, Option, Some, None, string_bytes}
use Rattle.abt_text.specs.Text.{Text, ◌⋅◌, newline, decimal}
use Rattle.abt_places.specs.Places.{place_at}
use Rattle.abt_places.specs.declared.place.Place.{Place}
use Rattle.abt_perform.specs.Names.{scenario_fault_name}
use Rattle.abt_check.specs.declared.finding.Found.{Found}
use Rattle.abt_check.specs.declared.finding.Warning.{Warning}
use Rattle.abt_check.specs.declared.finding.Checked.{Checked}

abbrev pub line_and_column : Place → Text
line_and_column place = codes "line " ⋅ decimal place.line ⋅ codes ", column " ⋅ decimal place.column ⋅ codes ": "

-- the place behind so many octets of a text, if they are known
abbrev pub place_text : Text → Option ℕ → Text
place_text source None = []
place_text source (Some at) = line_and_column (place_at at source)

abbrev pub fault_line : Text → Found → Text
fault_line source found =
    place_text source found.at ⋅ codes "fault " ⋅ scenario_fault_name found.fault ⋅ codes ": " ⋅ string_bytes found.text ⋅ newline

abbrev pub fault_lines : Text → List Found → Text
fault_lines source [] = []
fault_lines source (found ∷ others) = fault_line source found ⋅ fault_lines source others

abbrev pub warning_line : Text → Warning → Text
warning_line source warning = place_text source warning.at ⋅ codes "warning: " ⋅ string_bytes warning.text ⋅ newline

abbrev pub warning_lines : Text → List Warning → Text
warning_lines source [] = []
warning_lines source (warning ∷ others) = warning_line source warning ⋅ warning_lines source others

-- no more than so many of each are told
abbrev pub found_max : ℕ
found_max = 100

abbrev pub count_text : ℕ → Text
count_text count = decimal count ⋅ (if count == found_max then codes " or more" else [])

-- the last line
abbrev pub counts_line : Checked → Text
counts_line checked =
    codes "faults: " ⋅ count_text (length checked.faults.items) ⋅ codes ", warnings: " ⋅ count_text (length checked.warnings.items) ⋅ newline

-- the faults, the warnings, and how many there are
abbrev pub check_text : Text → Checked → Text
check_text source checked = fault_lines source checked.faults.items ⋅ warning_lines source checked.warnings.items ⋅ counts_line checked
