-- What events leave that are woven from journals.
use Rattle.std.specs.Prelude.{◌≡◌, ℕ, ◌++◌, List, [], ◌∷◌, slice_get, Some}
use Rattle.abt_net.specs.declared.conn.Conn.{Conn}
use Rattle.abt_net.specs.Topology.{Topology, conn_at}
use Rattle.abt_facts.specs.declared.fact.Fact.{Fact}
use Rattle.abt_actor.specs.Actor.{actor_of}
use Rattle.abt_model.specs.Outcomes.{facts_added}
use Rattle.abt_model.specs.Past.{Past, facts_of}
use Rattle.abt_model.specs.PortTable.{port_table}
use Rattle.abt_journal.specs.declared.entry.Entry.{Entry}
use Rattle.abt_journal.specs.Replay.{replay}
use Rattle.abt_model.specs.declared.entry.SourceEntry.{SourceEntry}
use Rattle.abt_model.specs.declared.entry.SourceEntry.TheVariants.{Did}
use Rattle.abt_model.specs.declared.journal.SourceJournal.{SourceJournal}

-- the facts of a source that did all this, one after the other, after these facts, the newest first
abbrev pub facts_done : List Fact → List SourceEntry → List Fact
facts_done facts [] = facts
facts_done facts (Did event outcome ∷ entries) = facts_done (facts_added facts event outcome ++ facts) entries
facts_done facts (entry ∷ entries) = facts_done facts entries

-- Each port has the table that the inputs of its journal make of its first one, and each source is the one that did what its
-- journal says.
pub record LeavesAsJournaled (net : Topology) (journals : List (List Entry)) (sources : List SourceJournal) (past : Past) : Type 0 where
  pub tables : (p : ℕ) (entries : List Entry) → slice_get journals p ≡ Some entries → port_table net past p ≡ replay (port_table net [] p) entries
  pub actors : (c : ℕ) (conn : Conn) (journal : SourceJournal) → conn_at net c ≡ Some conn → slice_get sources c ≡ Some journal →
      actor_of conn.vc (facts_of c past) ≡ actor_of conn.vc (facts_done [] journal.entries)
