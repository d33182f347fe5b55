-- How the writes that journals leave open are settled (docs/AUDITS.md, "Open writes"): each was stored or wasn't, so that what their
-- sources did next fits. Facts are those of one connection, the newest first.
use Rattle.std.specs.Prelude.{◌≡◌, ◌⊎◌, ◌==◌, ℕ, ◌+◌, zero, suc, ◌≤◌, List, [], ◌∷◌, length, if◌then◌else◌, Option, None, Some}
use Rattle.abt_cell.specs.Channel.{Channel}
use Rattle.abt_keep.specs.declared.plan.StorePlan.{StorePlan}
use Rattle.abt_keep.specs.declared.plan.StorePlan.TheVariants.{Works, FailsBefore, FailsAfter}
use Rattle.abt_net.specs.declared.conn.Conn.{Conn}
use Rattle.abt_net.specs.Topology.{Topology, conn_at}
use Rattle.abt_facts.specs.declared.fact.Fact.{Fact}
use Rattle.abt_model.specs.declared.event.Event.TheVariants.{Ask}
use Rattle.abt_model.specs.declared.outcome.Outcome.{Outcome}
use Rattle.abt_model.specs.declared.entry.SourceEntry.{SourceEntry}
use Rattle.abt_model.specs.declared.entry.SourceEntry.TheVariants.{Did, Sent, Arrived}
use Rattle.abt_model.specs.declared.journal.SourceJournal.{SourceJournal}
use Rattle.abt_journal_text.specs.declared.open_write.OpenWrite.{OpenWrite}
use Rattle.abt_journal_text.specs.declared.run.Run.{Run}
use Rattle.abt_audit.specs.Protocol.{answer_in, facts_past}

-- an ask under another plan of its store; what is no ask stays
abbrev pub with_plan : StorePlan → SourceEntry → SourceEntry
with_plan plan (Did (Ask c rate old) told) = Did (Ask c rate plan) told
with_plan plan entry = entry

-- the plan of an ask
abbrev pub plan_of : SourceEntry → StorePlan
plan_of (Did (Ask c rate plan) told) = plan
plan_of entry = Works

-- entries, that of one place under this plan
abbrev pub planned : StorePlan → (place : ℕ) → List SourceEntry → List SourceEntry
planned plan place [] = []
planned plan zero (entry ∷ entries) = with_plan plan entry ∷ entries
planned plan (suc n) (entry ∷ entries) = entry ∷ planned plan n entries

-- The write of each of these places, which failed, was stored or wasn't; nothing else of the entries is changed.
abbrev pub IsSettled : List ℕ → List SourceEntry → List SourceEntry → Type 0
IsSettled [] entries settled = settled ≡ entries
IsSettled (place ∷ places) entries settled =
    IsSettled places (planned FailsBefore place entries) settled ⊎ IsSettled places (planned FailsAfter place entries) settled

-- the outcome that an entry says its source had
abbrev pub told_in : SourceEntry → Option Outcome
told_in (Did event told) = Some told
told_in (Sent place) = None
told_in (Arrived cell place) = None

-- So many entries have the outcomes that the source gives, after such facts.
abbrev pub FitsFrom : Channel → List Fact → List SourceEntry → ℕ → Type 0
FitsFrom vc facts entries zero = Unit {0}
FitsFrom vc facts [] (suc n) = ⊥
FitsFrom vc facts (entry ∷ entries) (suc n) = (answer_in vc facts entry ≡ told_in entry) × FitsFrom vc (facts_past vc facts entry) entries n

-- So many entries of a whole journal have the outcomes that the source gives.
abbrev pub FitsTo : Channel → List SourceEntry → ℕ → Type 0
FitsTo vc entries n = FitsFrom vc [] entries n

-- so many fit, and no more
pub record IsReach (vc : Channel) (entries : List SourceEntry) (n : ℕ) : Type 0 where
  pub fits : FitsTo vc entries n
  pub no_more : FitsTo vc entries (suc n) → ⊥

-- However the writes of these places are settled, no more entries fit than these, and once they are settled in some way, these do.
pub record IsFarthest (vc : Channel) (places : List ℕ) (entries : List SourceEntry) (n : ℕ) : Type 0 where
  pub settled : List SourceEntry
  pub settles : IsSettled places entries settled
  pub fits : FitsTo vc settled n
  pub most : (other : List SourceEntry) (m : ℕ) → IsSettled places entries other → FitsTo vc other m → m ≤ n

-- how many open writes of one source are settled together
abbrev pub together : ℕ
together = 8

-- So many entries fit, and fewer do if the write of a place wasn't stored, however the next ones are settled.
pub record IsNeeded (vc : Channel) (place : ℕ) (next : List ℕ) (entries settled : List SourceEntry) : Type 0 where
  pub count : ℕ
  pub fits : FitsTo vc settled count
  pub not_before : (other : List SourceEntry) → IsSettled next (planned FailsBefore place entries) other → FitsTo vc other count → ⊥

-- However the writes of a place and of the next ones are settled, as many entries fit if that of the place is settled
-- so; and it is taken as stored only if it has to be.
pub record Prefers (vc : Channel) (place : ℕ) (next : List ℕ) (entries : List SourceEntry) (plan : StorePlan) : Type 0 where
  pub failed : (plan ≡ FailsBefore) ⊎ (plan ≡ FailsAfter)
  pub as_far : (other : List SourceEntry) (n : ℕ) → IsSettled (place ∷ next) entries other → FitsTo vc other n
      → (settled : List SourceEntry) × IsSettled next (planned plan place entries) settled × FitsTo vc settled n
  pub needed : plan ≡ FailsAfter
      → (settled : List SourceEntry) × IsSettled next (planned FailsAfter place entries) settled × IsNeeded vc place next entries settled

-- However else the writes of these places are settled, no more entries fit than if they are settled so.
abbrev pub FitsAsFar : Channel → List ℕ → List SourceEntry → List SourceEntry → Type 0
FitsAsFar vc places entries settled = (other : List SourceEntry) (n : ℕ) → IsSettled places entries other → FitsTo vc other n → FitsTo vc settled n

-- Each write of these places, in their order, wasn't stored; or it was, and had to be.
abbrev pub StoredIfNeeded : Channel → List ℕ → List SourceEntry → List SourceEntry → Type 0
StoredIfNeeded vc [] entries settled = settled ≡ entries
StoredIfNeeded vc (place ∷ places) entries settled = StoredIfNeeded vc places (planned FailsBefore place entries) settled
    ⊎ (StoredIfNeeded vc places (planned FailsAfter place entries) settled × IsNeeded vc place places entries settled)

-- The writes of these places are settled. If they are few, as many entries fit as can, and each that is taken as
-- stored has to be.
pub record SettlesSource (vc : Channel) (places : List ℕ) (entries settled : List SourceEntry) : Type 0 where
  pub settles : IsSettled places entries settled
  pub farthest : length places ≤ together → FitsAsFar vc places entries settled
  pub needed : length places ≤ together → StoredIfNeeded vc places entries settled

-- the places of the writes that a source leaves open
abbrev pub places_on : ℕ → List OpenWrite → List ℕ
places_on c [] = []
places_on c (write ∷ writes) = if write.source == c then write.place ∷ places_on c writes else places_on c writes

-- the writes that the journal of source c leaves open are settled
abbrev pub SettlesAt : Topology → List OpenWrite → (c : ℕ) → (journal settled : SourceJournal) → Type 0
SettlesAt net open_writes c journal settled =
    (conn : Conn) → conn_at net c ≡ Some conn → SettlesSource conn.vc (places_on c open_writes) journal.entries settled.entries

-- those of the sources from this number on are
abbrev pub AreSettledFrom : Topology → List OpenWrite → (c : ℕ) → (sources settled : List SourceJournal) → Type 0
AreSettledFrom net open_writes c [] settled = settled ≡ []
AreSettledFrom net open_writes c (journal ∷ more) [] = ⊥
AreSettledFrom net open_writes c (journal ∷ more) (settled ∷ others) =
    SettlesAt net open_writes c journal settled × AreSettledFrom net open_writes (c + 1) more others

-- those of all sources are
abbrev pub AreSettled : Topology → List OpenWrite → (sources settled : List SourceJournal) → Type 0
AreSettled net open_writes sources settled = AreSettledFrom net open_writes 0 sources settled

-- A run, what it leaves open settled.
pub record IsSettledRun (told run : Run) : Type 0 where
  pub same : run ≡ record told { sources = run.sources }
  pub settled : AreSettled told.net told.open_writes.items told.sources.items run.sources.items
