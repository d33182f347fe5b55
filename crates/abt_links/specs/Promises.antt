-- What workers promise of their results, and what their promises say together.
use Rattle.std.specs.Prelude.{◌≡◌, ◌<◌, ℕ, ◌+◌, List, [], ◌∷◌, All, map, Option, None, Some, Result, IfOk, IfErr, IsErrOf, length, slice_index}
use Rattle.abt_net.specs.Topology.{Topology, conn_at}
use Rattle.abt_net.specs.declared.conn.Conn.{Conn}
use Rattle.abt_journal.specs.Receipts.{Seated}
use Rattle.abt_journal.specs.declared.fault.ServeFault.{ServeFault}
use Rattle.abt_journal.specs.declared.fault.ServeFault.TheVariants.{Wound}
use Rattle.abt_model.specs.declared.script_command.Command.{Command}
use Rattle.abt_history.specs.Sites.{SiteView}
use Rattle.abt_links.specs.Messages.{IsMessage}
use Rattle.abt_links.specs.Operations.{AreReceiptsFor}
use Rattle.abt_links.specs.Scripts.{RunsScript, step_of}
use Rattle.abt_links.specs.declared.promises.AccessOf.{AccessOf}
use Rattle.abt_links.specs.declared.promises.LinkOf.{LinkOf}
use Rattle.abt_links.specs.declared.promises.OperatorOf.{OperatorOf}
use Rattle.abt_links.specs.declared.fault.RunFault.{RunFault}
use Rattle.abt_links.specs.declared.fault.RunFault.TheVariants as run
use Rattle.abt_links.specs.declared.worker_results.WorkerResults.{WorkerResults}

-- A Wound is told only if fewer entries were found than seen.
abbrev pub WoundsRight : {A : Type 0} → Result A ServeFault → Type 0
WoundsRight r = (seen found : ℕ) → IsErrOf r (Wound seen found) → found < seen

-- The seat is that of the source of connection c, which ran its script.
pub record IsAccess (net : Topology) (c : ℕ) (script : List Command) (seat : Seated) (site : SiteView) : Type 0 where
  pub caller : seat.caller ≡ c
  pub own : site.conn ≡ c
  pub runs : (line : Conn) → conn_at net c ≡ Some line → RunsScript line c script site.entries (map (λ receipt. step_of receipt.entry) seat.receipts)
  pub first : (line : Conn) → conn_at net c ≡ Some line → All (λ receipt. receipt.port ≡ slice_index line.path 0) seat.receipts

abbrev pub KeepsAccess : Topology → ℕ → List Command → Result (Seated × SiteView) ServeFault → Type 0
KeepsAccess net c script r = IfOk r (λ x. IsAccess net c script x.0 x.1) × WoundsRight r

-- The seat is that of a link worker.
pub record IsLink (caller : ℕ) (seat : Seated) : Type 0 where
  pub own : seat.caller ≡ caller
  pub messages : All IsMessage seat.receipts

abbrev pub KeepsLink : ℕ → Result Seated ServeFault → Type 0
KeepsLink caller r = IfOk r (IsLink caller) × WoundsRight r

-- The seat is that of the operator, who carried out its list.
pub record IsOperator (caller : ℕ) (operations : List (ℕ × ℕ)) (seat : Seated) : Type 0 where
  pub own : seat.caller ≡ caller
  pub receipts : AreReceiptsFor operations seat.receipts

abbrev pub KeepsOperator : ℕ → List (ℕ × ℕ) → Result Seated ServeFault → Type 0
KeepsOperator caller operations r = IfOk r (IsOperator caller operations) × WoundsRight r

-- the promises of link workers, with the callers from n on
abbrev pub AreLinksFrom : ℕ → List LinkOf → Type 0
AreLinksFrom n [] = Unit {0}
AreLinksFrom n (p ∷ ps) = (p.caller ≡ n) × AreLinksFrom (n + 1) ps

-- the promises of the first access workers from n on, each of its script
abbrev pub AreAccessesFrom : Topology → ℕ → List (List Command) → List AccessOf → Type 0
AreAccessesFrom net n scripts [] = Unit {0}
AreAccessesFrom net n [] (p ∷ ps) = ⊥
AreAccessesFrom net n (script ∷ scripts) (p ∷ ps) =
    (p.conn ≡ n) × (p.net.value ≡ net) × (p.script.value ≡ script) × AreAccessesFrom net (n + 1) scripts ps

-- what each worker gave back keeps the promise at its place
abbrev pub KeepEachLink : List LinkOf → List (Result Seated ServeFault) → Type 0
KeepEachLink [] [] = Unit {0}
KeepEachLink [] (r ∷ rs) = ⊥
KeepEachLink (p ∷ ps) [] = ⊥
KeepEachLink (p ∷ ps) (r ∷ rs) = KeepsLink p.caller r × KeepEachLink ps rs

abbrev pub KeepEachAccess : List AccessOf → List (Result (Seated × SiteView) ServeFault) → Type 0
KeepEachAccess [] [] = Unit {0}
KeepEachAccess [] (r ∷ rs) = ⊥
KeepEachAccess (p ∷ ps) [] = ⊥
KeepEachAccess (p ∷ ps) (r ∷ rs) = KeepsAccess p.net.value p.conn p.script.value r × KeepEachAccess ps rs

-- what the operator gave back, if it was started, keeps its promise
abbrev pub KeepItsOperator : Option OperatorOf → Option (Result Seated ServeFault) → Type 0
KeepItsOperator None None = Unit {0}
KeepItsOperator None (Some r) = ⊥
KeepItsOperator (Some p) None = ⊥
KeepItsOperator (Some p) (Some r) = KeepsOperator p.caller p.operations.now r

-- each seat keeps the promise at its place
abbrev pub KeepLinks : List LinkOf → List Seated → Type 0
KeepLinks [] [] = Unit {0}
KeepLinks [] (s ∷ ss) = ⊥
KeepLinks (p ∷ ps) [] = ⊥
KeepLinks (p ∷ ps) (s ∷ ss) = IsLink p.caller s × KeepLinks ps ss

abbrev pub KeepAccesses : List AccessOf → List Seated → List SiteView → Type 0
KeepAccesses [] [] [] = Unit {0}
KeepAccesses [] [] (j ∷ js) = ⊥
KeepAccesses [] (s ∷ ss) js = ⊥
KeepAccesses (p ∷ ps) [] js = ⊥
KeepAccesses (p ∷ ps) (s ∷ ss) [] = ⊥
KeepAccesses (p ∷ ps) (s ∷ ss) (j ∷ js) = IsAccess p.net.value p.conn p.script.value s j × KeepAccesses ps ss js

-- the seats of the sources from n on, and the sources
abbrev pub AreSourcesFrom : Topology → ℕ → List (List Command) → List Seated → List SiteView → Type 0
AreSourcesFrom net n [] [] [] = Unit {0}
AreSourcesFrom net n [] [] (j ∷ js) = ⊥
AreSourcesFrom net n [] (s ∷ ss) js = ⊥
AreSourcesFrom net n (script ∷ scripts) [] js = ⊥
AreSourcesFrom net n (script ∷ scripts) (s ∷ ss) [] = ⊥
AreSourcesFrom net n (script ∷ scripts) (s ∷ ss) (j ∷ js) = IsAccess net n script s j × AreSourcesFrom net (n + 1) scripts ss js

-- the seats of link workers, with the callers from n on
abbrev pub AreLinkSeatsFrom : ℕ → List Seated → Type 0
AreLinkSeatsFrom n [] = Unit {0}
AreLinkSeatsFrom n (s ∷ ss) = IsLink n s × AreLinkSeatsFrom (n + 1) ss

-- The workers gave back all sources with their seats, the seats of all link workers, and the operator's seat.
pub record AreWorked {K F T : Type 0} (net : Topology) (scripts : List (List Command)) (operations : List (ℕ × ℕ)) (workers : ℕ) (worked : WorkerResults K F T) : Type 0 where
  pub sources : AreSourcesFrom net 0 scripts worked.accesses.items worked.sites.items
  pub links : AreLinkSeatsFrom (length net.conns) worked.links.items
  pub count : length worked.links.items ≡ workers
  pub operator : IsOperator (length net.conns + workers) operations worked.operator

-- The fault is one of the workers themselves.
abbrev pub IsOwn : RunFault → Type 0
IsOwn run.Workers = ⊥
IsOwn run.Scripts = ⊥
IsOwn run.Operator = ⊥
IsOwn run.Thread = Unit {0}
IsOwn (run.Wound seen found) = found < seen
IsOwn (run.Gather fault) = ⊥
IsOwn run.Memory = Unit {0}

abbrev pub IsOwnFault : {A : Type 0} → Result A RunFault → Type 0
IsOwnFault r = IfErr r IsOwn

-- The fault is not one of what is asked for.
abbrev pub IsLate : RunFault → Type 0
IsLate run.Workers = ⊥
IsLate run.Scripts = ⊥
IsLate run.Operator = ⊥
IsLate run.Thread = Unit {0}
IsLate (run.Wound seen found) = found < seen
IsLate (run.Gather fault) = Unit {0}
IsLate run.Memory = Unit {0}
