-- No way to settle open writes is left out.
use Rattle.std.specs.Prelude.{◌≡◌, ℕ, ◌≤◌, List, length, slice_get, Some}
use Rattle.abt_net.specs.declared.conn.Conn.{Conn}
use Rattle.abt_net.specs.Topology.{Topology, conn_at}
use Rattle.abt_journal.specs.declared.entry.Entry.{Entry}
use Rattle.abt_model.specs.declared.event.Event.{Event}
use Rattle.abt_model.specs.declared.entry.SourceEntry.{SourceEntry}
use Rattle.abt_model.specs.declared.journal.SourceJournal.{SourceJournal}
use Rattle.abt_weave.specs.Woven.{IsWoven}
use Rattle.abt_journal_text.specs.declared.open_write.OpenWrite.{OpenWrite}
use Rattle.abt_journal_text.specs.declared.spot.Spot.{Spot}
use Rattle.abt_derive.specs.Completes.{Completes}
use Rattle.abt_audit.specs.Settling.{AreSettled, IsSettled, FitsTo, places_on, together}

-- A source has few open writes, and not all entries of its settled journal have the outcomes that the source gives.
pub record IsUnfit (net : Topology) (open_writes : List OpenWrite) (c : ℕ) (conn : Conn) (settled : SourceJournal) : Type 0 where
  pub known : conn_at net c ≡ Some conn
  pub few : length (places_on c open_writes) ≤ together
  pub unfit : FitsTo conn.vc settled.entries (length settled.entries) → ⊥

-- Then no list of events is woven from journals in which the open writes of this source are settled, in whatever way.
abbrev pub EachWayIsTried : Topology → List OpenWrite → List (List Entry) → (sources settled : List SourceJournal) → Type 0
EachWayIsTried net open_writes ports sources settled =
    AreSettled net open_writes sources settled → (c : ℕ) (conn : Conn) (journal after other : SourceJournal)
    → slice_get sources c ≡ Some journal → slice_get settled c ≡ Some after → IsUnfit net open_writes c conn after
    → (others : List SourceJournal) → slice_get others c ≡ Some other → IsSettled (places_on c open_writes) journal.entries other.entries
    → (events : List Event) → IsWoven net ports others events → ⊥

-- And none is woven from journals in which that of this source is completed besides, in whatever way.
abbrev pub EachCompletionIsTried : Topology → List OpenWrite → List (List Entry) → (sources settled : List SourceJournal) → Type 0
EachCompletionIsTried net open_writes ports sources settled =
    AreSettled net open_writes sources settled → (c : ℕ) (conn : Conn) (journal after full : SourceJournal) (other : List SourceEntry)
    (first spots at : List Spot) → slice_get sources c ≡ Some journal → slice_get settled c ≡ Some after → IsUnfit net open_writes c conn after
    → IsSettled (places_on c open_writes) journal.entries other → Completes first spots 0 other full.entries at
    → (others : List SourceJournal) → slice_get others c ≡ Some full → (events : List Event) → IsWoven net ports others events → ⊥
