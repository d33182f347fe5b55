-- What an audit tells, in its form (docs/AUDITS.md, "What is told", "One log", "Findings as JSON").
use Rattle.std.specs.Prelude.{◌⊎◌, ◌+◌, ℕ, List, Option, String, codes}
use Rattle.std.specs.declared.alloc.Global.{Global}
use Rattle.std.specs.Io.KnownBytes.{Appends, Keeps}
use Rattle.abt_text.specs.Text.{Text, ◌⋅◌, decimal, newline}
use Rattle.abt_text.specs.Streams.{AppendsPrefix}
use Rattle.abt_journal_text.specs.declared.spot.Spot.{Spot}
use Rattle.abt_perform.specs.Names.{fault_line}
use Rattle.abt_perform.specs.Plans.{Tells}
use Rattle.abt_perform.specs.declared.fault.Fault.TheVariants as program_fault
use Rattle.abt_weave.specs.declared.actor.Actor.{Actor}
use Rattle.abt_weave.specs.declared.actor.Actor.TheVariants.{Source, Port}
use Rattle.abt_audit.specs.Names.{note_lines}
use Rattle.abt_audit.specs.Objects.{note_objects, obeys_object, woven_object}
use Rattle.abt_audit.specs.declared.form.Form.{Form}
use Rattle.abt_audit.specs.declared.form.Form.TheVariants.{Words, Json}

-- what is told of lines that are cut
abbrev pub notes_text : Form → List Spot → Text
notes_text Words cuts = note_lines cuts
notes_text Json cuts = note_objects cuts

-- what goes out of journals that are woven into so many events
abbrev pub woven_text : Form → (events : ℕ) → Text
woven_text Words events = codes "woven" ⋅ newline ⋅ codes "safe" ⋅ newline
woven_text Json events = woven_object events

-- whose log it is
abbrev pub actor_name : Actor → Text
actor_name (Port p) = codes "port " ⋅ decimal p
actor_name (Source c) = codes "source " ⋅ decimal c

-- what goes out of a log that obeys in so many entries
abbrev pub obeys_line : Actor → (count : ℕ) → Text
obeys_line actor count = actor_name actor ⋅ codes " obeys: entries " ⋅ decimal count ⋅ newline

abbrev pub obeys_text : Form → Actor → (count : ℕ) → Text
obeys_text Words actor count = obeys_line actor count
obeys_text Json actor count = obeys_object actor count

-- words are told, and nothing goes out
abbrev pub JustTells : Text → (old new told_old told_new : Option Text) → Type 0
JustTells words old new told_old told_new = Keeps old new × Tells words told_old told_new

-- objects go out, and nothing is told; or it is told that not all of them could be written
abbrev pub PutsOut : Text → (old new told_old told_new : Option Text) → Type 0
PutsOut objects old new told_old told_new =
    (Appends old new objects × Keeps told_old told_new)
    ⊎ (AppendsPrefix old new objects × Tells (fault_line program_fault.Write) told_old told_new)

-- the same, if there is memory for them, and else want of memory is told
abbrev pub PutsOutIfMade : Text → (old new told_old told_new : Option Text) → Type 0
PutsOutIfMade objects old new told_old told_new =
    PutsOut objects old new told_old told_new ⊎ JustTells (fault_line program_fault.Memory) old new told_old told_new
