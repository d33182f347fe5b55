-- Why lines aren't answered, and what is told.
use Rattle.std.proofs.Common.{◌≡◌, ℕ, List, sym, subst}
use Rattle.std.specs.Prelude.{Option}
use Rattle.abt_keep.specs.Record.{KeptRecord}
use Rattle.abt_disk.specs.declared.file_fault.FileFault.{FileFault}
use Rattle.abt_disk.specs.declared.file_fault.FileFault.TheVariants as file
use Rattle.abt_perform.specs.Names.{fault_line}
use Rattle.abt_perform.specs.Plans.{Tells}
use Rattle.abt_perform.specs.declared.fault.Fault.TheVariants.{Memory}
use Rattle.abt_live_files.specs.declared.fault.LiveStop.{LiveStop}
use Rattle.abt_live_files.specs.declared.fault.LiveStop.TheVariants.{Scenario, Port, Connection, Store, Journal, Serving}
use Rattle.abt_live_files.specs.declared.journal_fault.JournalFault.{JournalFault}
use Rattle.abt_live_files.specs.declared.journal_fault.JournalFault.TheVariants as journal
use Rattle.abt_plans.specs.declared.process.SourcePlan.{SourcePlan}
use Rattle.abt_live_files.specs.Opened.{IsOfFile}
use Rattle.abt_live_files.specs.Served.{IsUnopened, StopsSource}
use Rattle.abt_live_files.specs.Words.{TellsEach, journal_pieces, store_pieces}

-- a file isn't opened
pub file_stops : {K J : Type 0} (content : K → KeptRecord) (contents : J → Option (List ℕ)) (stop : LiveStop) (text : Option (List ℕ)) (plan : SourcePlan)
    (left old new : Option (List ℕ)) → IsOfFile stop → IsUnopened text plan old new → StopsSource content contents stop text plan left old new
file_stops content contents (Scenario fault) text plan left old new is unopened = absurd is
file_stops content contents (Port id) text plan left old new is unopened = absurd is
file_stops content contents (Connection conn) text plan left old new is unopened = absurd is
file_stops content contents (Store fault) text plan left old new is unopened = unopened
file_stops content contents (Journal fault) text plan left old new is unopened = unopened
file_stops content contents (Serving fault) text plan left old new is unopened = absurd is

-- want of memory is told alone
pub store_memory : (name : List ℕ) (fault : FileFault) (old new : Option (List ℕ)) → fault ≡ file.Memory → Tells (fault_line Memory) old new
    → TellsEach (store_pieces name fault) old new
store_memory name fault old new is told = subst (λ f. TellsEach (store_pieces name f) old new) (sym is) told

pub journal_memory : (name : List ℕ) (fault : JournalFault) (old new : Option (List ℕ)) → fault ≡ journal.Memory → Tells (fault_line Memory) old new
    → TellsEach (journal_pieces name fault) old new
journal_memory name fault old new is told = subst (λ f. TellsEach (journal_pieces name f) old new) (sym is) told
