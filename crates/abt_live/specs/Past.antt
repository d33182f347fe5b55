-- What a source's journal says of its past (docs/LIVE.md, "A source that starts again").
use Rattle.std.specs.Prelude.{◌≡◌, ◌≢◌, ◌⊎◌, ℕ, ◌+◌, ◌^◌, ◌==◌, ◌&&◌, true, false, nat_le, nat_lt, if◌then◌else◌, codes}
use Rattle.std.specs.Prelude.{Option, Some, None}
use Rattle.std.specs.Str.{is_utf8}
use Rattle.json.specs.Json.{Json, document}
use Rattle.json.specs.Find.{as_str, get}
use Rattle.abt_text.specs.Text.{Text}
use Rattle.abt_format.specs.Values.{◌>>=◌, rate_of}
use Rattle.abt_entry.specs.Lines.{Says, SaysNone}
use Rattle.abt_entry.specs.Values.{whole_below}
use Rattle.abt_entry.specs.declared.fault.LineFault.{LineFault}
use Rattle.abt_entry.specs.declared.fault.LineFault.TheVariants.{Kind}
use Rattle.abt_entry.specs.declared.line.Line.{Line}
use Rattle.abt_entry.specs.declared.line.Line.TheVariants as line
use Rattle.abt_model.specs.declared.entry.SourceEntry.{SourceEntry}
use Rattle.abt_model.specs.declared.entry.SourceEntry.TheVariants.{Did}
use Rattle.abt_model.specs.declared.event.Event.{Event}
use Rattle.abt_model.specs.declared.event.Event.TheVariants as event
use Rattle.abt_model.specs.declared.outcome.Outcome.{Outcome}
use Rattle.abt_model.specs.declared.outcome.Outcome.TheVariants as outcome
use Rattle.abt_live.specs.declared.past.Past.{Past}
use Rattle.abt_live.specs.declared.noted.Noted.{Noted}
use Rattle.abt_live.specs.declared.noted.Noted.TheVariants.{About, Entry, Nothing}

-- before anything happened
abbrev pub no_past : Past
no_past = record { cells = 0; clock = 0; is_up = false; about = None }

-- the rate of an ask of the source of a connection that is about to write, if a value says one
abbrev pub about_in : (conn : ℕ) → Json → Option ℕ
about_in conn json = do
  at_number ← get (codes "about") json
  number ← whole_below (2 ^ 64) at_number
  at_code ← get (codes "ask") json
  code ← as_str at_code
  if number == conn then rate_of code else None

-- what a line of journals says of the source of a connection: an entry, or nothing
abbrev pub entry_for : (conn source : ℕ) → SourceEntry → Noted
entry_for conn source entry = if source == conn then Entry entry else Nothing

abbrev pub noted_by : (conn : ℕ) → Line → Noted
noted_by conn (line.Source source entry) = entry_for conn source entry
noted_by conn (line.Open source entry) = entry_for conn source entry
noted_by conn other = Nothing

abbrev pub about_or_nothing : Option ℕ → Noted
about_or_nothing (Some rate) = About rate
about_or_nothing None = Nothing

-- What a text says of the source of a connection: what it says as a line of journals; or, if its value is no such line, what that says of an
-- ask that is about to write; and nothing, if it has no such value.
abbrev pub Notes : (conn : ℕ) → Text → Noted → Type 0
Notes conn text noted =
    ((said : Line) × Says text said × (noted ≡ noted_by conn said))
    ⊎ (SaysNone text Kind × ((json : Json) × (document text ≡ Some json) × (noted ≡ about_or_nothing (about_in conn json))))
    ⊎ ((noted ≡ Nothing) × ((is_utf8 text ≡ false) ⊎ ((why : LineFault) × (why ≢ Kind) × SaysNone text why)))

-- a start follows at a moment, unless that is before the last one
abbrev pub started_past : Past → (now : ℕ) → Option Past
started_past past now = if nat_lt now past.clock then None else Some (record past { clock = now; is_up = true })

-- a cell of a number follows at a moment, if it is the next number, and the moment isn't before the last one
abbrev pub emitted_past : Past → (cell now : ℕ) → Option Past
emitted_past past cell now =
    if nat_lt (cell + 1) (2 ^ 64) && (cell == past.cells) && nat_le past.clock now then Some (record past { cells = cell + 1; clock = now })
    else None

-- a deed follows, if it can
abbrev pub deed_after : Past → Event → Outcome → Option Past
deed_after past (event.Start conn now) outcome.Started = started_past past now
deed_after past (event.Emit conn now) (outcome.Emitted cell next) = emitted_past past cell now
deed_after past (event.Crash conn) outcome.Crashed = Some (record past { is_up = false })
deed_after past deed came = Some past

-- nothing is about to be written any more
abbrev pub settled : Past → Past
settled past = record past { about = None }

-- what a line says follows, if it can
abbrev pub past_after : Past → Noted → Option Past
past_after past (About rate) = Some (record past { about = Some rate })
past_after past (Entry (Did deed came)) = deed_after (settled past) deed came
past_after past (Entry other) = Some (settled past)
past_after past Nothing = None

-- a line of the journal of the source of a connection follows, if it can
abbrev pub Follows : (conn : ℕ) → Past → Text → Option Past → Type 0
Follows conn past text next = (noted : Noted) × Notes conn text noted × (next ≡ past_after past noted)
