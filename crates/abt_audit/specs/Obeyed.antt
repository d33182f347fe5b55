-- Logs that are woven obey, each by itself.
use Rattle.std.specs.Prelude.{◌≡◌, ℕ, List, length, slice_get, Some, All}
use Rattle.abt_net.specs.declared.conn.Conn.{Conn}
use Rattle.abt_net.specs.Topology.{Topology, conn_at}
use Rattle.abt_journal.specs.declared.entry.Entry.{Entry}
use Rattle.abt_model.specs.declared.event.Event.{Event}
use Rattle.abt_model.specs.Events.{AsksRate}
use Rattle.abt_model.specs.declared.journal.SourceJournal.{SourceJournal}
use Rattle.abt_journal_text.specs.declared.spot.Spot.{Spot}
use Rattle.abt_derive.specs.Completes.{Completes}
use Rattle.abt_weave.specs.Stuck.{RunJournals}
use Rattle.abt_weave.specs.Woven.{IsWoven}
use Rattle.abt_audit.specs.OneLog.{PortObeys}
use Rattle.abt_audit.specs.Settling.{FitsTo}

-- If events, each of whose rates a code can name, are woven from journals, each port obeys in all entries of its own.
abbrev pub WovenPortsObey : Topology → RunJournals → Type 0
WovenPortsObey net journals =
    (events : List Event) → All AsksRate events → IsWoven net journals.ports journals.sources events
    → (p : ℕ) (entries : List Entry) → slice_get journals.ports p ≡ Some entries → PortObeys net p entries (length entries)

-- So does each source, also if its journal is the one that is woven without entries that it lacked.
abbrev pub WovenSourcesObey : Topology → RunJournals → Type 0
WovenSourcesObey net journals =
    (events : List Event) → IsWoven net journals.ports journals.sources events
    → (c : ℕ) (conn : Conn) (full written : SourceJournal) (first spots at : List Spot) → conn_at net c ≡ Some conn
    → slice_get journals.sources c ≡ Some full → Completes first spots 0 written.entries full.entries at
    → FitsTo conn.vc written.entries (length written.entries)
