-- How a line changes what was told, and why it doesn't (docs/JOURNALS.md).
use Rattle.std.specs.Prelude.{◌≡◌, ◌≢◌, ℕ, ◌<◌, ◌≤◌, ◌⊎◌, true, false, length, None, ⊤}
use Rattle.std.specs.Str.{IsUtf8}
use Rattle.abt_net.specs.Faults.{IsFirstFault}
use Rattle.abt_net.specs.Topology.{Topology, IsWithinRules}
use Rattle.abt_net.specs.declared.fault.NetFault.{NetFault}
use Rattle.abt_text.specs.Text.{Text}
use Rattle.abt_entry.specs.declared.fault.LineFault.{LineFault}
use Rattle.abt_entry.specs.declared.fault.LineFault.TheVariants.{Utf8}
use Rattle.abt_entry.specs.Lines.{Says, SaysNone}
use Rattle.abt_entry.specs.declared.line.Line as declared
use Rattle.abt_entry.specs.declared.line.Line.TheVariants as line
use Rattle.abt_journal_text.specs.declared.spot.Spot.{Spot}
use Rattle.abt_journal_text.specs.declared.fault.Cause.{Cause}
use Rattle.abt_journal_text.specs.declared.fault.Cause.TheVariants as cause
use Rattle.abt_journal_text.specs.Books.{Told, steps_at, placed, with_net, with_step, with_entry, with_open, with_end}

-- the net comes first, and once
abbrev pub TakesNet : Told → Topology → Told → Type 0
TakesNet told net after = (told.net ≡ None) × IsWithinRules net × (after ≡ with_net net told)

abbrev pub TakesEnd : Told → Told → Type 0
TakesEnd told after = (told.net ≢ None) × (after ≡ with_end told)

-- What is told once a line of this kind is taken in. A step of a port has the next place there, also if it doesn't say its place.
abbrev pub Takes : Spot → Told → declared.Line → Told → Type 0
Takes spot told (line.Net net) after = TakesNet told net after
Takes spot told (line.Port p entry) after =
    (told.net ≢ None) × (p < length told.ports) × (entry.place ≡ length (steps_at told p)) × (after ≡ with_step spot p entry told)
Takes spot told (line.Unplaced p entry) after =
    (told.net ≢ None) × (p < length told.ports) × (after ≡ with_step spot p (placed (length (steps_at told p)) entry) told)
Takes spot told (line.Source c entry) after = (told.net ≢ None) × (c < length told.sources) × (after ≡ with_entry spot c entry told)
Takes spot told (line.Open c entry) after = (told.net ≢ None) × (c < length told.sources) × (after ≡ with_open spot c entry told)
Takes spot told line.End after = TakesEnd told after

-- ports and connections aren't a net
abbrev pub IsNoNet : Topology → Cause → Type 0
IsNoNet net why = (fault : NetFault) × (why ≡ cause.Net fault) × IsFirstFault net fault

-- why a line of this kind isn't taken in
abbrev pub Refuses : Told → declared.Line → Cause → Type 0
Refuses told (line.Net net) why = ((why ≡ cause.SecondNet) × (told.net ≢ None)) ⊎ ((told.net ≡ None) × IsNoNet net why)
Refuses told (line.Port p entry) cause.NoNet = told.net ≡ None
Refuses told (line.Port p entry) cause.NoPort = (told.net ≢ None) × (length told.ports ≤ p)
Refuses told (line.Port p entry) cause.Place = (told.net ≢ None) × (p < length told.ports) × (entry.place ≢ length (steps_at told p))
Refuses told (line.Unplaced p entry) cause.NoNet = told.net ≡ None
Refuses told (line.Unplaced p entry) cause.NoPort = (told.net ≢ None) × (length told.ports ≤ p)
Refuses told (line.Source c entry) cause.NoNet = told.net ≡ None
Refuses told (line.Source c entry) cause.NoSource = (told.net ≢ None) × (length told.sources ≤ c)
Refuses told (line.Open c entry) cause.NoNet = told.net ≡ None
Refuses told (line.Open c entry) cause.NoSource = (told.net ≢ None) × (length told.sources ≤ c)
Refuses told line.End cause.NoNet = told.net ≡ None
Refuses told some other = ⊥

-- The octets of a line are taken in as what they say, before the end of their text.
pub record TakesLine (spot : Spot) (told : Told) (octets : Text) (after : Told) : Type 0 where
  pub before_end : told.ended ≡ false
  pub utf8 : IsUtf8 octets
  pub line : declared.Line
  pub says : Says octets line
  pub takes : Takes spot told line after

-- The octets say a line that isn't taken in.
pub record RefusesKind (told : Told) (octets : Text) (why : Cause) : Type 0 where
  pub line : declared.Line
  pub says : Says octets line
  pub refuses : Refuses told line why

-- the octets are no line
abbrev pub IsNoLine : Text → Cause → Type 0
IsNoLine octets why = (fault : LineFault) × (why ≡ cause.Line fault) × SaysNone octets fault

-- why a line isn't taken in: it stands behind the end, it isn't UTF-8, it says nothing, or it says what can't come here
abbrev pub RefusesLine : Told → Text → Cause → Type 0
RefusesLine told octets why =
    ((why ≡ cause.Behind) × (told.ended ≡ true))
    ⊎ ((told.ended ≡ false) × (why ≡ cause.Line Utf8) × ¬ IsUtf8 octets)
    ⊎ ((told.ended ≡ false) × IsUtf8 octets × (IsNoLine octets why ⊎ RefusesKind told octets why))

-- the causes for which texts aren't to blame
abbrev pub IsOwn : Cause → Type 0
IsOwn cause.Read = ⊤
IsOwn cause.Endless = ⊤
IsOwn cause.Memory = ⊤
IsOwn other = ⊥
