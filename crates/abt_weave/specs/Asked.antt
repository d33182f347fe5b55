-- What a source's journal says that it asked for. Entries are listed with the newest first.
use Rattle.std.specs.Prelude.{ℕ, ◌==◌, List, [], ◌∷◌, if◌then◌else◌}
use Rattle.abt_model.specs.declared.event.Event.TheVariants.{Ask}
use Rattle.abt_model.specs.declared.outcome.Outcome.TheVariants.{Asked}
use Rattle.abt_model.specs.declared.entry.SourceEntry.{SourceEntry}
use Rattle.abt_model.specs.declared.entry.SourceEntry.TheVariants.{Did}

-- the floor and the asked rate of the last request of a number, 0 if there is none
abbrev pub floor_in : List SourceEntry → ℕ → ℕ
floor_in [] s = 0
floor_in (Did (Ask c rate plan) (Asked request) ∷ entries) s = if request.seq == s then request.floor else floor_in entries s
floor_in (entry ∷ entries) s = floor_in entries s

abbrev pub ask_in : List SourceEntry → ℕ → ℕ
ask_in [] s = 0
ask_in (Did (Ask c rate plan) (Asked request) ∷ entries) s = if request.seq == s then request.ask else ask_in entries s
ask_in (entry ∷ entries) s = ask_in entries s
