-- The lines of entries at which journals are stuck.
use Rattle.std.specs.Prelude.{ℕ, List, [], Option, Some, None, option_map, option_and_then, slice_get, String}
use Rattle.std.specs.declared.alloc.Global.{Global}
use Rattle.json.specs.Print.{print}
use Rattle.json.specs.Tree.{json_tokens}
use Rattle.abt_text.specs.Text.{Text, ◌⋅◌, newline}
use Rattle.abt_model.specs.declared.entry.SourceEntry.{SourceEntry}
use Rattle.abt_model.specs.declared.journal.SourceJournal.{SourceJournal}
use Rattle.abt_entry.specs.EntryWritten.{step_json, entry_json}
use Rattle.abt_weave.specs.declared.actor.Actor.{Actor}
use Rattle.abt_weave.specs.declared.actor.Actor.TheVariants.{Source, Port}
use Rattle.abt_journal_text.specs.Books.{lists_of}
use Rattle.abt_journal_text.specs.declared.run.Run.{Run}
use Rattle.abt_journal_text.specs.declared.spot.Spot.{Spot}
use Rattle.abt_audit.specs.Names.{spot_head}

-- the item of a place in the list of a number
abbrev pub item_at : {A : Type 0} → List (List A) → (n place : ℕ) → Option A
item_at lists n place = option_and_then (λ items. slice_get items place) (slice_get lists n)

abbrev pub entry_at : List SourceJournal → (c place : ℕ) → Option SourceEntry
entry_at sources c place = option_and_then (λ journal. slice_get journal.entries place) (slice_get sources c)

-- where an entry stands, and the entry, as it is written
abbrev pub spotted : List (String Global) → Option Spot → Option Text → Text
spotted names (Some spot) (Some entry) = spot_head names spot ⋅ entry ⋅ newline
spotted names (Some spot) None = []
spotted names None entry = []

abbrev pub line_at : List (String Global) → Run → Actor → ℕ → Text
line_at names run (Port p) place =
    spotted names (item_at (lists_of run.port_spots) p place) (option_map (λ entry. print (json_tokens (step_json p entry))) (item_at run.journals p place))
line_at names run (Source c) place =
    spotted names (item_at (lists_of run.source_spots) c place)
    (option_map (λ entry. print (json_tokens (entry_json c entry))) (entry_at run.sources.items c place))
