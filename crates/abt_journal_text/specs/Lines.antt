-- The lines of whole journals, and what became of writing them.
use Rattle.std.specs.Prelude.{◌≡◌, ℕ, ◌+◌, ◌<◌, ◌≤◌, List, [], ◌∷◌, ◌++◌, length, map, take, All, Option, Result, MatchResult}
use Rattle.std.specs.Io.KnownBytes.{Appends}
use Rattle.abt_text.specs.Text.{Text, ◌⋅◌, newline}
use Rattle.abt_net.specs.Topology.{Topology}
use Rattle.abt_journal.specs.declared.entry.Entry.{Entry}
use Rattle.abt_model.specs.declared.entry.SourceEntry.{SourceEntry}
use Rattle.abt_model.specs.declared.journal.SourceJournal.{SourceJournal}
use Rattle.abt_entry.specs.EntryWritten.{step_json, entry_json}
use Rattle.abt_journal_text.specs.Texts.{line_max, text_of}
use Rattle.abt_journal_text.specs.NetJson.{line_of, net_json, end_json}
use Rattle.abt_journal_text.specs.declared.write_fault.WriteFault.{WriteFault}
use Rattle.abt_journal_text.specs.declared.write_fault.WriteFault.TheVariants as fault

-- the steps of a port, a line for each
abbrev pub step_lines : ℕ → List Entry → List Text
step_lines port entries = map (λ entry. line_of (step_json port entry)) entries

-- those of the ports from this number on
abbrev pub ports_lines : ℕ → List (List Entry) → List Text
ports_lines port [] = []
ports_lines port (entries ∷ more) = step_lines port entries ++ ports_lines (port + 1) more

-- the entries of the source of a connection, a line for each
abbrev pub entry_lines : ℕ → List SourceEntry → List Text
entry_lines conn entries = map (λ entry. line_of (entry_json conn entry)) entries

-- those of the sources from this number on
abbrev pub sources_lines : ℕ → List SourceJournal → List Text
sources_lines conn [] = []
sources_lines conn (journal ∷ more) = entry_lines conn journal.entries ++ sources_lines (conn + 1) more

-- the entries of the sources, and then the end
abbrev pub rest_lines : List SourceJournal → List Text
rest_lines sources = sources_lines 0 sources ++ line_of end_json ∷ []

-- all lines behind that of the net
abbrev pub body_lines : List (List Entry) → List SourceJournal → List Text
body_lines ports sources = ports_lines 0 ports ++ rest_lines sources

-- the net, then the steps of each port in their order, then the entries of each source in theirs, then the end
abbrev pub journal_lines : Topology → List (List Entry) → List SourceJournal → List Text
journal_lines net ports sources = line_of (net_json net) ∷ body_lines ports sources

-- the text of a net and its journals
abbrev pub journals_text : Topology → List (List Entry) → List SourceJournal → Text
journals_text net ports sources = text_of (journal_lines net ports sources)

-- a line isn't too long
abbrev pub IsShort : Text → Type 0
IsShort line = length line ≤ line_max

-- The lines went out, all of them, and none is too long.
pub record Sends (lines : List Text) (old new : Option Text) : Type 0 where
  pub sent : Appends old new (text_of lines)
  pub short : All IsShort lines

-- what went out if this line, behind others, isn't written: those before it, and a part of it if the writer failed, which is told
-- only of a line that isn't too long
abbrev pub BreaksAt : WriteFault → List Text → Text → (old new : Option Text) → Type 0
BreaksAt fault.TooLong front line old new = (line_max < length line) × Appends old new (text_of front)
BreaksAt fault.Write front line old new =
    (count : ℕ) × (count < length line + 1) × IsShort line × Appends old new (text_of front ⋅ take count (line ⋅ newline))
BreaksAt fault.Memory front line old new = Appends old new (text_of front)

-- The lines before one went out, and none of them is too long; that one isn't written, for this reason.
pub record Stops (lines : List Text) (why : WriteFault) (old new : Option Text) : Type 0 where
  pub front : List Text
  pub line : Text
  pub rest : List Text
  pub are : lines ≡ front ++ line ∷ rest
  pub short : All IsShort front
  pub breaks : BreaksAt why front line old new

-- the outcome of writing some lines
abbrev pub Writes : Result (Unit {0}) WriteFault → List Text → (old new : Option Text) → Type 0
Writes result lines old new = MatchResult result (λ _. Sends lines old new) (λ why. Stops lines why old new)
