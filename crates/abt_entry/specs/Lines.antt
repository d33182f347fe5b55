-- What one line of a journal says (docs/JOURNALS.md).
use Rattle.std.specs.Prelude.{◌≡◌, ◌⊎◌, ℕ, ◌^◌, Bool, true, false, Option, None, Some, Ok, Err}
use Rattle.json.specs.Json.{Json, document}
use Rattle.json.specs.Find.{as_bool}
use Rattle.json.specs.Strict.{HasUniqueKeys}
use Rattle.abt_text.specs.Text.{Text}
use Rattle.abt_journal.specs.declared.entry.Entry.{Entry}
use Rattle.abt_model.specs.declared.entry.SourceEntry.{SourceEntry}
use Rattle.abt_entry.specs.declared.fault.LineFault.{LineFault}
use Rattle.abt_entry.specs.declared.fault.LineFault.TheVariants as fault
use Rattle.abt_entry.specs.declared.member.Member.TheVariants as of
use Rattle.abt_text.specs.FirstFault.{◌>>=◌}
use Rattle.abt_entry.specs.Reading.{Read}
use Rattle.abt_entry.specs.Values.{find, whole_of, if_there}
use Rattle.abt_entry.specs.declared.line.Line.{Line}
use Rattle.abt_entry.specs.declared.line.Line.TheVariants.{Net, Port, Unplaced, Source, Open, End}
use Rattle.abt_entry.specs.NetLines.{net_in}
use Rattle.abt_entry.specs.PortLines.{step_in}
use Rattle.abt_entry.specs.SourceLines.{entry_in, is_open_in, unstored}

-- the line of a step, which may say its place or not
abbrev pub port_line : Option Json → ℕ → Entry → Line
port_line None port entry = Unplaced port entry
port_line (Some place) port entry = Port port entry

abbrev pub port_in : Json → Json → Read Line
port_in json at_port = do
  port ← whole_of (2 ^ 16) of.Port at_port
  entry ← step_in json
  Ok (port_line (find of.Place json) port entry)

-- the line of an entry, which may leave open whether a write that failed was stored
abbrev pub source_line : (is_open : Bool) → ℕ → SourceEntry → Line
source_line true source entry = Open source (unstored entry)
source_line false source entry = Source source entry

abbrev pub source_in : Json → Json → Read Line
source_in json at_source = do
  source ← whole_of (2 ^ 16) of.Source at_source
  entry ← entry_in source json
  Ok (source_line (is_open_in entry (find of.Did json)) source entry)

abbrev pub if_true : Option Bool → Read Line
if_true (Some true) = Ok End
if_true (Some false) = Err (fault.Member of.End)
if_true None = Err (fault.Member of.End)

-- the line that a value is: one of `net`, `port`, `source` and `end`
abbrev pub line_in : Json → Read Line
line_in json =
    if_there (find of.Net json) (λ value. net_in value >>= (λ net. Ok (Net net)))
    (if_there (find of.Port json) (port_in json)
    (if_there (find of.Source json) (source_in json)
    (if_there (find of.End json) (λ value. if_true (as_bool value))
    (Err fault.Kind))))

-- A text says what its value is, which has no member twice in one object.
pub record Says (text : Text) (line : Line) : Type 0 where
  pub json : Json
  pub read : document text ≡ Some json
  pub unique : HasUniqueKeys json
  pub is : line_in json ≡ Ok line

-- why a text that is UTF-8 says no line: it isn't JSON; its value has a member twice in one object; or that value is no line
abbrev pub SaysNone : Text → LineFault → Type 0
SaysNone text why =
    ((why ≡ fault.Json) × (document text ≡ None))
    ⊎ ((why ≡ fault.Twice) × (json : Json) × (document text ≡ Some json) × ¬ HasUniqueKeys json)
    ⊎ ((json : Json) × (document text ≡ Some json) × HasUniqueKeys json × (line_in json ≡ Err why))
