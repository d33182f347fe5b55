-- The events of journals before the entries at which they are stuck (docs/PICTURES.md, "Drawing").
use Rattle.std.specs.Prelude.{◌≡◌, ◌≢◌, ℕ, List, [], ◌∷◌, take, flat_map, slice_set, slice_index_or, String}
use Rattle.std.specs.declared.alloc.Global.{Global}
use Rattle.abt_text.specs.Text.{Text}
use Rattle.abt_net.specs.Topology.{Topology}
use Rattle.abt_model.specs.declared.journal.SourceJournal.{SourceJournal}
use Rattle.abt_weave.specs.Faults.{IsWeaveFault}
use Rattle.abt_weave.specs.OneFault.{AreJournalsOf}
use Rattle.abt_weave.specs.Stuck.{RunJournals}
use Rattle.abt_weave.specs.Woven.{IsWoven}
use Rattle.abt_weave.specs.declared.actor.Actor.{Actor}
use Rattle.abt_weave.specs.declared.actor.Actor.TheVariants.{Source, Port}
use Rattle.abt_weave.specs.declared.actor.Stuck.{Stuck}
use Rattle.abt_weave.specs.declared.fault.WeaveFault.{WeaveFault}
use Rattle.abt_weave.specs.declared.fault.WeaveFault.TheVariants.{Mismatch, NoOrder, Memory}
use Rattle.abt_journal_text.specs.declared.run.Run.{Run}
use Rattle.abt_audit.specs.Stuck.{line_at}
use Rattle.abt_audit.specs.declared.marks.Mark.{Mark}
use Rattle.abt_audit.specs.declared.parting.Part.{Part}
use Rattle.abt_audit.specs.declared.parting.WovenPart.{WovenPart}

-- the journals of a run
abbrev pub run_journals : Run → RunJournals
run_journals run = record { ports = run.journals; sources = run.sources.items }

-- there is one for each port and each source of its net
abbrev pub IsSizedRun : Run → Type 0
IsSizedRun run = AreJournalsOf run.net (run_journals run)

-- lists, that of a number cut before the item of a place
abbrev pub cut_list : {A : Type 0} → List (List A) → (n place : ℕ) → List (List A)
cut_list lists n place = slice_set lists n (take place (slice_index_or lists n []))

abbrev pub no_entries : SourceJournal
no_entries = record { entries = [] }

abbrev pub cut_source : List SourceJournal → (c place : ℕ) → List SourceJournal
cut_source sources c place = slice_set sources c (record { entries = take place (slice_index_or sources c no_entries).entries })

-- journals, that of an actor cut before the entry at which it is stuck
abbrev pub cut_on : RunJournals → (place : ℕ) → Actor → RunJournals
cut_on journals place (Port p) = record { ports = cut_list journals.ports p place; sources = journals.sources }
cut_on journals place (Source c) = record { ports = journals.ports; sources = cut_source journals.sources c place }

abbrev pub cut_at : RunJournals → Stuck → RunJournals
cut_at journals stuck = cut_on journals stuck.place stuck.actor

abbrev pub cut_all : RunJournals → List Stuck → RunJournals
cut_all journals [] = journals
cut_all journals (stuck ∷ more) = cut_all (cut_at journals stuck) more

-- the entries that a fault names
abbrev pub named_in : WeaveFault → List Stuck
named_in (Mismatch actor place) = record { actor = actor; place = place } ∷ []
named_in (NoOrder stuck) = stuck
named_in Memory = []

-- of each actor there is one entry at most
abbrev pub IsOfNone : Actor → List Stuck → Type 0
IsOfNone actor [] = Unit {0}
IsOfNone actor (stuck ∷ more) = (actor ≢ stuck.actor) × IsOfNone actor more

abbrev pub NamesEachOnce : List Stuck → Type 0
NamesEachOnce [] = Unit {0}
NamesEachOnce (stuck ∷ more) = IsOfNone stuck.actor more × NamesEachOnce more

-- The first fault is that of the journals, and each later one is the fault of what the earlier ones leave of them.
abbrev pub AreFaults : Topology → RunJournals → List WeaveFault → Type 0
AreFaults net journals [] = Unit {0}
AreFaults net journals (fault ∷ faults) = IsWeaveFault net journals fault × AreFaults net (cut_all journals (named_in fault)) faults

-- The events are those of the journals before the entries at which they are stuck, which are those that their faults
-- name.
pub record IsWovenPart (net : Topology) (journals : RunJournals) (part : WovenPart) : Type 0 where
  pub faults : List WeaveFault
  pub are_faults : AreFaults net journals faults
  pub stuck_at : part.stuck ≡ flat_map named_in faults
  pub are_woven : IsWoven net (cut_all journals part.stuck).ports (cut_all journals part.stuck).sources part.events

abbrev pub journals_in : Part → RunJournals
journals_in part = record { ports = part.journals; sources = part.sources.items }

-- what a mark says, and what is to be said of an entry at which a journal is stuck: whose journal it is, and its line
abbrev pub said_in : Mark → Actor × Text
said_in mark = (mark.actor, mark.line.items)

abbrev pub said_of : List (String Global) → Run → Stuck → Actor × Text
said_of names run stuck = (stuck.actor, line_at names run stuck.actor stuck.place)
