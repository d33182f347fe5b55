-- An entry that mismatches isn't the protocol's answer.
use Rattle.std.specs.Prelude.{◌≡◌, ◌≢◌, ℕ, List, Some, slice_get}
use Rattle.abt_net.specs.declared.conn.Conn.{Conn}
use Rattle.abt_net.specs.Topology.{Topology, conn_at}
use Rattle.abt_model.specs.declared.entry.SourceEntry.TheVariants.{Did}
use Rattle.abt_model.specs.declared.event.Event.{Event}
use Rattle.abt_model.specs.declared.journal.SourceJournal.{SourceJournal}
use Rattle.abt_model.specs.declared.outcome.Outcome.{Outcome}
use Rattle.abt_journal.specs.declared.entry.Entry.{Entry}
use Rattle.abt_weave.specs.Stuck.{RunJournals}
use Rattle.abt_weave.specs.declared.actor.Actor.TheVariants.{Port, Source}
use Rattle.abt_weave.specs.Faults.{IsWeaveFault}
use Rattle.abt_weave.specs.declared.fault.WeaveFault.TheVariants.{Mismatch}
use Rattle.abt_audit.specs.Protocol.{port_answer, source_answer}

-- If the entry of a port is named as a mismatch, its reply isn't what is told as the protocol's.
abbrev pub PortsAreContradicted : Topology → RunJournals → Type 0
PortsAreContradicted net journals =
    (p place : ℕ) (entries : List Entry) (entry : Entry) → IsWeaveFault net journals (Mismatch (Port p) place)
    → slice_get journals.ports p ≡ Some entries → slice_get entries place ≡ Some entry → port_answer net p entries place ≢ Some entry.reply

-- If the entry of a source is named as a mismatch, its outcome isn't what is told as the source's.
abbrev pub SourcesAreContradicted : Topology → RunJournals → Type 0
SourcesAreContradicted net journals =
    (c place : ℕ) (conn : Conn) (journal : SourceJournal) (event : Event) (told : Outcome) → IsWeaveFault net journals (Mismatch (Source c) place)
    → conn_at net c ≡ Some conn → slice_get journals.sources c ≡ Some journal → slice_get journal.entries place ≡ Some (Did event told)
    → source_answer conn.vc journal.entries place ≢ Some told
