-- The text of a net and its journals is read as just these.
use Rattle.std.specs.Prelude.{◌≡◌, ℕ, ◌+◌, ⊤, true, List, [], ◌∷◌, length, map, All, Some, slice_get}
use Rattle.abt_text.specs.Text.{Text}
use Rattle.abt_net.specs.Topology.{Topology, IsWithinRules}
use Rattle.abt_journal.specs.declared.entry.Entry.{Entry}
use Rattle.abt_model.specs.declared.journal.SourceJournal.{SourceJournal}
use Rattle.abt_journal_text.specs.Books.{Told, blank, journal_of, with_text}
use Rattle.abt_journal_text.specs.Texts.{Reads, top}
use Rattle.abt_journal_text.specs.Fits.{IsChannel}
use Rattle.abt_journal_text.specs.Lines.{IsShort, journal_lines, journals_text}
use Rattle.abt_journal_text.specs.Tellable.{IsStep, IsEntry}

-- The journal of a port: each place is how many steps came before.
pub record IsPortJournal (steps : List Entry) : Type 0 where
  pub places : (i : ℕ) (step : Entry) → slice_get steps i ≡ Some step → step.place ≡ i
  pub each : All IsStep steps

-- the journals of the sources of connections, from this number on
abbrev pub AreOfSources : ℕ → List SourceJournal → Type 0
AreOfSources conn [] = ⊤
AreOfSources conn (journal ∷ more) = All (IsEntry conn) journal.entries × AreOfSources (conn + 1) more

-- A net with journals of its ports and sources, which lines can say.
pub record AreTellable (net : Topology) (ports : List (List Entry)) (sources : List SourceJournal) : Type 0 where
  pub rules : IsWithinRules net
  pub channels : All (λ conn. IsChannel conn.vc) net.conns
  pub port_count : length ports ≡ length net.capacities
  pub source_count : length sources ≡ length net.conns
  pub steps : All IsPortJournal ports
  pub entries : AreOfSources 0 sources

-- Just these were told, and nothing is left open or cut.
pub record TellsJust (net : Topology) (ports : List (List Entry)) (sources : List SourceJournal) (told : Told) : Type 0 where
  pub net_is : told.net ≡ Some net
  pub ports_are : told.ports ≡ ports
  pub sources_are : map journal_of told.sources ≡ sources
  pub settled : told.open_writes ≡ []
  pub uncut : told.cuts ≡ []
  pub ended : told.ended ≡ true

-- As the first text, whatever its number, it is read, and tells just these.
pub record IsReadAs (number : ℕ) (text : Text) (net : Topology) (ports : List (List Entry)) (sources : List SourceJournal) : Type 0 where
  pub told : Told
  pub reads : Reads (top number) (with_text blank) text told
  pub just : TellsJust net ports sources told

-- if lines can say these journals, and none of their lines is too long
abbrev pub HasRoundTrip : Topology → List (List Entry) → List SourceJournal → Type 0
HasRoundTrip net ports sources =
    AreTellable net ports sources → All IsShort (journal_lines net ports sources)
    → (number : ℕ) → IsReadAs number (journals_text net ports sources) net ports sources
