-- A source's journal that is read, and what its file needs before more is written behind it (docs/LIVE.md, "A source that starts again").
use Rattle.std.specs.Prelude.{◌≡◌, ℕ, ◌+◌, ◌^◌, ◌==◌, nat_lt, if◌then◌else◌, length, [], Option, Some, None}
use Rattle.abt_text.specs.Text.{Text, ◌⋅◌}
use Rattle.abt_lines.specs.Lines.{seen_lines}
use Rattle.abt_lines.specs.Runs.{Runs, Steps}
use Rattle.abt_model.specs.declared.event.Event.TheVariants.{Crash}
use Rattle.abt_model.specs.declared.outcome.Outcome.TheVariants.{Crashed}
use Rattle.abt_live.specs.declared.past.Past.{Past}
use Rattle.abt_live.specs.declared.history.History.{History}
use Rattle.abt_live.specs.declared.history.Tail.{Tail}
use Rattle.abt_live.specs.declared.history.Tail.TheVariants.{Whole, Cut, Foreign}
use Rattle.abt_live.specs.declared.history.Mending.{Mending}
use Rattle.abt_live.specs.declared.history.Mending.TheVariants as mending
use Rattle.abt_live.specs.Past.{Follows, no_past}
use Rattle.abt_live.specs.FailedLine.{failed_line}
use Rattle.abt_live.specs.SourceJournal.{deed_line}

-- a journal without a line
abbrev pub no_history : (conn : ℕ) → History
no_history conn = record { conn = conn; past = no_past; octets = 0; tail = Whole }

-- a line of so many octets follows, and the past with it, if there is one
abbrev pub with_past : History → (size : ℕ) → Option Past → History
with_past history size (Some past) =
    if nat_lt (history.octets + size + 1) (2 ^ 64) then record history { past = past; octets = history.octets + size + 1 }
    else record history { tail = Foreign }
with_past history size None = record history { tail = Cut size }

-- a line of so many octets follows: one that can't come there is cut if it is the last, and behind that no line comes
abbrev pub by_tail : Tail → History → (size : ℕ) → Option Past → History
by_tail Whole history size past = with_past history size past
by_tail (Cut before) history size past = record history { tail = Foreign }
by_tail Foreign history size past = history

abbrev pub history_after : History → (size : ℕ) → Option Past → History
history_after history size past = by_tail history.tail history size past

-- the next line of a journal; one that is too long is no line of a source
abbrev pub NotesLine : Steps History
NotesLine old number (Some line) said new =
    (said ≡ []) × ((next : Option Past) × Follows old.conn old.past line next × (new ≡ history_after old (length line) next))
NotesLine old number None said new = (said ≡ []) × (new ≡ record old { tail = Foreign })

-- a journal tells this, its lines one after the other
abbrev pub Recounts : (conn : ℕ) → Text → History → Type 0
Recounts conn text history = (said : Text) × Runs NotesLine (no_history conn) 1 (seen_lines text) said history

-- What a file of so many octets needs, if it has such a journal: nothing, a line feed behind its last line, or to end with these octets of it.
abbrev pub mending_by : Tail → (octets size : ℕ) → Option Mending
mending_by Whole octets size =
    if octets == size then Some mending.Nothing else if octets == size + 1 then Some mending.LineFeed else None
mending_by (Cut more) octets size = if octets + more == size then Some (mending.End octets) else None
mending_by Foreign octets size = None

abbrev pub mending_of : History → (size : ℕ) → Option Mending
mending_of history size = mending_by history.tail history.octets size

-- what is written of an ask that was about to write when the process ended: whether it is stored is left open
abbrev pub open_text : (conn : ℕ) → Option ℕ → Text
open_text conn (Some rate) = failed_line conn rate
open_text conn None = []

-- and what is written of the end of the process: a source that was up crashed
abbrev pub crash_text : (conn : ℕ) → Past → Text
crash_text conn past = if past.is_up then deed_line conn (Crash conn) Crashed else []

-- what a process that begins again writes of the one before
abbrev pub restart_text : (conn : ℕ) → Past → Text
restart_text conn past = open_text conn past.about ⋅ crash_text conn past
