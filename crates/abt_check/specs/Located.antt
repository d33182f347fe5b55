-- How the checks of files are told, line by line, as editors read them: a file's name as it is shown, line and column, and what is there
-- (docs/FORMATS.md, "Checks of files").
use Rattle.std.specs.Prelude.{ℕ, List, [], ◌∷◌, codes, Option, Some, None, string_bytes}
use Rattle.abt_text.specs.Text.{Text, ◌⋅◌, newline, decimal}
use Rattle.abt_places.specs.Places.{place_at}
use Rattle.abt_places.specs.declared.place.Place.{Place}
use Rattle.abt_perform.specs.Names.{scenario_fault_name}
use Rattle.abt_check.specs.CheckText as plain
use Rattle.abt_check.specs.declared.finding.Found.{Found}
use Rattle.abt_check.specs.declared.finding.Warning.{Warning}
use Rattle.abt_check.specs.declared.finding.Checked.{Checked}

abbrev pub line_and_column : Place → Text
line_and_column place = decimal place.line ⋅ codes ":" ⋅ decimal place.column ⋅ codes ": "

-- the place behind so many octets of a file's text, if they are known, and else the file alone
abbrev pub located : (name source : Text) → Option ℕ → Text
located name source None = name ⋅ codes ": "
located name source (Some at) = name ⋅ codes ":" ⋅ line_and_column (place_at at source)

abbrev pub fault_line : (name source : Text) → Found → Text
fault_line name source found =
    located name source found.at ⋅ codes "fault: " ⋅ scenario_fault_name found.fault ⋅ codes ": " ⋅ string_bytes found.text ⋅ newline

abbrev pub fault_lines : (name source : Text) → List Found → Text
fault_lines name source [] = []
fault_lines name source (found ∷ others) = fault_line name source found ⋅ fault_lines name source others

abbrev pub warning_line : (name source : Text) → Warning → Text
warning_line name source warning = located name source warning.at ⋅ codes "warning: " ⋅ string_bytes warning.text ⋅ newline

abbrev pub warning_lines : (name source : Text) → List Warning → Text
warning_lines name source [] = []
warning_lines name source (warning ∷ others) = warning_line name source warning ⋅ warning_lines name source others

-- the last line of a file
abbrev pub counts_line : (name : Text) → Checked → Text
counts_line name checked = name ⋅ codes ": " ⋅ plain.counts_line checked

-- the faults of a file, its warnings, and how many there are
abbrev pub check_lines : (name source : Text) → Checked → Text
check_lines name source checked =
    fault_lines name source checked.faults.items ⋅ warning_lines name source checked.warnings.items ⋅ counts_line name checked

-- a file that isn't checked: its fault, and why
abbrev pub unread_line : (name fault why : Text) → Text
unread_line name fault why = name ⋅ codes ": fault: " ⋅ fault ⋅ codes ": " ⋅ why ⋅ newline
