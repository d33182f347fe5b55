-- Scripts that are run command by command.
use Rattle.std.proofs.Common.{◌≡◌, Bool, true, false, ℕ, ◌+◌, ◌≤◌, ◌<◌, ◌^◌, List, [], ◌∷◌, ◌++◌, length, map, take, get_or, All, Option, Some, slice_get, slice_index, refl, sym, ap, subst, ◌∙◌, add-one, append-nil, append_assoc, arith}
use Rattle.std.specs.Option.{ForSome}
use Rattle.std.proofs.Math.Seq.{take-suc}
use Rattle.std.proofs.lemmas.Option.{slice_get-get_or}
use Rattle.std.proofs.lemmas.List.{map-append, take_all}
use Rattle.std.proofs.lemmas.List.Elements.{All-append}
use Rattle.abt_net.specs.declared.conn.Conn.{Conn}
use Rattle.abt_net.specs.Topology.{Topology, IsConnWithin, IsWithinRules, conn_at}
use Rattle.abt_cell.specs.Channel.{Channel}
use Rattle.abt_facts.specs.declared.fact.Fact.{Fact}
use Rattle.abt_model.specs.declared.command.SourceCommand.{SourceCommand}
use Rattle.abt_model.specs.declared.command.SourceCommand.TheVariants as source
use Rattle.abt_model.specs.declared.outcome.Outcome.{Outcome}
use Rattle.abt_actor.specs.Actor.{actor_of}
use Rattle.abt_journal.specs.declared.entry.Receipt.{Receipt}
use Rattle.abt_journal.specs.Receipts.{Seated}
use Rattle.abt_links.specs.declared.port_cell.PortCellOf.{PortCellOf}
use Rattle.abt_links.specs.Cells.{AreCellsOf}
use Rattle.abt_model.specs.declared.script_command.Command.{Command}
use Rattle.abt_model.specs.declared.script_command.Command.TheVariants.{Start, Ask, Again, Crash, Emit, Listen}
use Rattle.abt_model.specs.declared.entry.SourceEntry.{SourceEntry}
use Rattle.abt_links.specs.CommandEffects.{LineStep, CommandEffect, Does}
use Rattle.abt_links.specs.Scripts.{arrived_after, moment_after, then_done, step_of, AreReceiptsFor, Runs, RunsScript, IsInTolerance}
use Rattle.abt_history.specs.Modes.{When}
use Rattle.abt_history.specs.Sites.{SiteView}
use Rattle.abt_links.specs.Lines.{HasBegun, IsLine}
use Rattle.abt_links.specs.SourceWorkers.{WorkerView, worked, HasDone, IsAfter, Obeys, Listened, HasRun, IsBehind, IsGiven}
use Rattle.abt_links.specs.declared.source_worker.SourceWorker.{SourceWorker}
use Rattle.abt_links.proofs.Doing.{bare, bare_done, Requests}

-- Commands with which no step comes

pub started : (conn : Conn) (c port now : ℕ) (old : WorkerView) (outcome : Outcome) (new : WorkerView)
    → ((facts : List Fact) → old.actor ≡ actor_of conn.vc facts → HasDone conn.vc c facts (source.Start now) old outcome new) → Obeys conn c port (Start now) old new
started conn c port now old outcome new done facts is = (
  bare conn.vc c facts (source.Start now),
  (record { entries = refl; after = refl }, refl),
  bare_done conn.vc c port facts (source.Start now) old outcome new (done facts is),
)

pub crashed : (conn : Conn) (c port : ℕ) (old : WorkerView) (outcome : Outcome) (new : WorkerView)
    → ((facts : List Fact) → old.actor ≡ actor_of conn.vc facts → HasDone conn.vc c facts source.Crash old outcome new) → Obeys conn c port Crash old new
crashed conn c port old outcome new done facts is = (
  bare conn.vc c facts source.Crash,
  (record { entries = refl; after = refl }, refl),
  bare_done conn.vc c port facts source.Crash old outcome new (done facts is),
)

pub listened : (conn : Conn) (c port turns : ℕ) (old new : WorkerView) → Listened conn.vc c turns old new → Obeys conn c port (Listen turns) old new
listened conn c port turns old new heard facts is =
    let h = (heard facts is).2 in (
      record { entries = (heard facts is).0; steps = []; facts = (heard facts is).1 },
      (h.hears, h.most, refl),
      record {
        actor = h.actor;
        entries = h.entries_are;
        arrived = h.arrived;
        caller = ap (λ (s : Seated). s.caller) h.seat;
        receipts = (
          [],
          ap (λ (s : Seated). s.receipts) h.seat ∙ sym (append-nil old.seat.receipts),
          record { each = refl; there = λ k d low. absurd (omega arith) },
        );
      },
    )

-- One command more

arrived_after-append : (arrived : ℕ) (xs ys : List LineStep) → arrived_after arrived (xs ++ ys) ≡ arrived_after (arrived_after arrived xs) ys
arrived_after-append arrived [] ys = refl
arrived_after-append arrived (x ∷ xs) ys = arrived_after-append (moment_after arrived x.input) xs ys

abbrev pub nothing_done : List Fact → CommandEffect
nothing_done facts = record { entries = []; steps = []; facts = facts }

made_effect : (es fs : List SourceEntry) (ss ts : List LineStep) (facts : List Fact) → es ≡ fs → ss ≡ ts → ◌≡◌ {A = CommandEffect} (record { entries = es; steps = ss; facts = facts }) (record { entries = fs; steps = ts; facts = facts })
made_effect es fs ss ts facts e s = cc

first_command : (conn : Conn) (c : ℕ) (facts : List Fact) (arrived : ℕ) (command : Command) (last : CommandEffect) → Does conn c facts arrived command last
    → Runs conn c facts arrived (command ∷ []) (then_done (nothing_done facts) last)
first_command conn c facts arrived command last does =
    (last, nothing_done last.facts, does, refl, made_effect last.entries (last.entries ++ []) last.steps (last.steps ++ []) last.facts (sym (append-nil last.entries)) (sym (append-nil last.steps)))

pub runs-push : (conn : Conn) (c : ℕ) (facts : List Fact) (arrived : ℕ) (commands : List Command) (command : Command) (effect last : CommandEffect)
    → Runs conn c facts arrived commands effect → Does conn c effect.facts (arrived_after arrived effect.steps) command last
    → Runs conn c facts arrived (commands ++ command ∷ []) (then_done effect last)
runs-push conn c facts arrived [] command effect last runs =
    let P : CommandEffect → Type 0 = λ d. Does conn c d.facts (arrived_after arrived d.steps) command last → Runs conn c facts arrived (command ∷ []) (then_done d last) in
    subst P (sym runs) (first_command conn c facts arrived command last)
runs-push conn c facts arrived (first ∷ commands) command effect last runs =
    let P : CommandEffect → Type 0 = λ d. Does conn c d.facts (arrived_after arrived d.steps) command last → Runs conn c facts arrived (first ∷ (commands ++ command ∷ [])) (then_done d last) in
    let did : CommandEffect = runs.0 in
    let rest : CommandEffect = runs.1 in
    subst P (sym runs.4) (λ does. (
      did,
      then_done rest last,
      runs.2,
      runs-push conn c did.facts (arrived_after arrived did.steps) commands command rest last runs.3 (rw (← arrived_after-append arrived did.steps rest.steps) does),
      made_effect ((did.entries ++ rest.entries) ++ last.entries) (did.entries ++ (rest.entries ++ last.entries)) ((did.steps ++ rest.steps) ++ last.steps) (did.steps ++ (rest.steps ++ last.steps)) last.facts
          (append_assoc did.entries rest.entries last.entries) (append_assoc did.steps rest.steps last.steps),
    ))

receipts-append : (port : ℕ) (ss ts : List LineStep) (rs qs : List Receipt) → AreReceiptsFor port ss rs → AreReceiptsFor port ts qs → AreReceiptsFor port (ss ++ ts) (rs ++ qs)
receipts-append port ss ts rs qs first last = record {
  each = (let m = map-append (λ (r : Receipt). step_of r.entry) rs qs in let e = first.each in let f = last.each in cc);
  there = All-append (λ (r : Receipt). r.port ≡ port) rs qs first.there last.there;
}

pub behind_none : (conn : Conn) (c port : ℕ) (worker : WorkerView) → worker.actor ≡ actor_of conn.vc [] → worker.seat ≡ record { caller = c; receipts = [] } → worker.entries ≡ [] → worker.arrived ≡ 0
    → IsBehind conn c port [] worker
behind_none conn c port worker actor seat entries arrived = (
  [],
  [],
  record {
    actor = actor;
    runs = made_effect worker.entries [] [] [] [] entries refl;
    arrived = arrived;
    caller = ap (λ (s : Seated). s.caller) seat;
    receipts = record { each = ap (λ (s : Seated). map (λ (r : Receipt). step_of r.entry) s.receipts) seat; there = rw (ap (λ (s : Seated). s.receipts) seat) (λ k d low. absurd (omega arith)) };
  },
)

pub behind-push : (conn : Conn) (c port : ℕ) (commands : List Command) (command : Command) (old new : WorkerView) → IsBehind conn c port commands old → Obeys conn c port command old new
    → IsBehind conn c port (commands ++ command ∷ []) new
behind-push conn c port commands command old new behind obeys =
    let facts : List Fact = behind.0 in
    let steps : List LineStep = behind.1 in
    let h : HasRun conn c port commands facts steps old = behind.2 in
    let next = obeys facts h.actor in
    let effect : CommandEffect = next.0 in
    let after : IsAfter conn.vc port effect old new = next.2 in
    let so_far : CommandEffect = record { entries = old.entries; steps = steps; facts = facts } in
    let runs : Runs conn c [] 0 (commands ++ command ∷ []) (then_done so_far effect) =
    runs-push conn c [] 0 commands command so_far effect h.runs (rw (← h.arrived) next.1) in (
      effect.facts,
      steps ++ effect.steps,
      record {
        actor = after.actor;
        runs = rw after.entries runs;
        arrived = after.arrived ∙ (ap (λ (a : ℕ). arrived_after a effect.steps) h.arrived ∙ sym (arrived_after-append 0 steps effect.steps));
        caller = after.caller ∙ h.caller;
        receipts = rw after.receipts.1 (receipts-append port steps effect.steps old.seat.receipts after.receipts.0 h.receipts after.receipts.2);
      },
    )

-- The loop over a script

pub script_begun : (conn : Conn) (c port : ℕ) (items : List Command) (worker : WorkerView) → IsBehind conn c port [] worker → IsBehind conn c port (take 0 items) worker
script_begun conn c port items worker h = h

pub script_goes_on : (conn : Conn) (c port : ℕ) (items : List Command) (index : ℕ) (command : Command) (old new : WorkerView) → index < length items → command ≡ get_or items index command
    → IsBehind conn c port (take index items) old → Obeys conn c port command old new → IsBehind conn c port (take (index + 1) items) new
script_goes_on conn c port items index command old new low is behind obeys =
    let grown : take (index + 1) items ≡ take index items ++ command ∷ [] = ap (λ (n : ℕ). take n items) (add-one index) ∙ (take-suc items index command low ∙ ap (λ (x : Command). take index items ++ x ∷ []) (sym is)) in
    rw grown (behind-push conn c port (take index items) command old new behind obeys)

pub script_done : (conn : Conn) (c port : ℕ) (script items : List Command) (index : ℕ) (worker : WorkerView) → items ≡ script → length items ≤ index → IsBehind conn c port (take index items) worker
    → RunsScript conn c script worker.entries (map (λ (r : Receipt). step_of r.entry) worker.seat.receipts) × All (λ (r : Receipt). r.port ≡ port) worker.seat.receipts
script_done conn c port script items index worker same past behind =
    let h : HasRun conn c port (take index items) behind.0 behind.1 worker = behind.2 in
    let whole : take index items ≡ script = take_all index items past ∙ same in
    let P : List Command → Type 0 = λ commands. Runs conn c [] 0 commands (record { entries = worker.entries; steps = behind.1; facts = behind.0 }) in
    let runs = subst P whole h.runs in
    let Q : List LineStep → Type 0 = λ steps. Runs conn c [] 0 script (record { entries = worker.entries; steps = steps; facts = behind.0 }) in
    ((behind.0, subst Q (sym h.receipts.each) runs), h.receipts.there)

-- The line of a connection

pub line_at : (conns xs : List Conn) (i j : ℕ) (x : Conn) → xs ≡ conns → i ≡ j → j < length conns → x ≡ get_or xs i x → slice_get conns j ≡ Some x
line_at conns xs i j x same place low is =
    slice_get-get_or conns j x low ∙ ap Some (ap (λ (k : ℕ). get_or conns k x) (sym place) ∙ (ap (λ (ys : List Conn). get_or ys i x) (sym same) ∙ sym is))

pub one_line : (o : Option Conn) (x y : Conn) → o ≡ Some x → o ≡ Some y → x ≡ y
one_line o x y a b = cc

tolerance_of : (tau : ℕ) (jitter : Option ℕ) → tau ≤ 10 ^ 12 → ForSome jitter (λ j. j ≤ tau) → ForSome jitter (λ j. j ≤ 10 ^ 12)
tolerance_of tau jitter low h j is = let k = h j is in omega arith

pub in_tolerance : (tau : ℕ) (command : Command) → tau ≤ 10 ^ 12 → IsInTolerance tau command → IsInTolerance (10 ^ 12) command
in_tolerance tau (Start now) low h = h
in_tolerance tau (Ask rate plan) low h = h
in_tolerance tau Again low h = h
in_tolerance tau Crash low h = h
in_tolerance tau (Emit now jitter) low h = tolerance_of tau jitter low h
in_tolerance tau (Listen turns) low h = h

pub tolerance_at : (tau : ℕ) (script items : List Command) (index : ℕ) (command : Command) → items ≡ script → index < length items → command ≡ get_or items index command
    → tau ≤ 10 ^ 12 → All (IsInTolerance tau) script → IsInTolerance (10 ^ 12) command
tolerance_at tau script items index command same low is small all =
    let P : List Command → Type 0 = λ xs. All (IsInTolerance tau) xs in
    let here : IsInTolerance tau (get_or items index command) = (subst P (sym same) all) index command low in
    in_tolerance tau command small (let Q : Command → Type 0 = IsInTolerance tau in subst Q (sym is) here)

pub rules_of : (net : Topology) (c : ℕ) (line : Conn) → IsWithinRules net → c < length net.conns → slice_get net.conns c ≡ Some line → IsConnWithin (length net.capacities) line
rules_of net c line rules low is =
    let here : IsConnWithin (length net.capacities) (get_or net.conns c line) = rules.each_conn c line low in
    let same : get_or net.conns c line ≡ line = one_line (slice_get net.conns c) (get_or net.conns c line) line (slice_get-get_or net.conns c line low) is in
    let Q : Conn → Type 0 = IsConnWithin (length net.capacities) in subst Q same here

-- the cell of the first port of a line
pub first_cell : {K F T : Type 0} (net : Topology) (cells : List (PortCellOf K F T)) (line : Conn) (path : List ℕ) (place : ℕ) (cell : PortCellOf K F T) → AreCellsOf net cells → IsConnWithin (length net.capacities) line
    → path ≡ line.path → place ≡ slice_index path 0 → cell ≡ get_or cells place cell → cell.port ≡ slice_index line.path 0
first_cell {K} {F} {T} net cells line path place cell are rules same at is =
    let first : place ≡ slice_index line.path 0 = at ∙ ap (λ (p : List ℕ). slice_index p 0) same in
    let within : slice_index line.path 0 < length net.capacities = rules.in_net 0 0 rules.has_hop in
    let low : place < length cells = (let n = are.ports in omega arith) in
    are.each place cell (slice_get-get_or cells place cell low ∙ ap Some (sym is)) ∙ first

-- The same of a source whose channel is that of its line

pub starts : (conn : Conn) (vc : Channel) (c port now : ℕ) (old : WorkerView) (outcome : Outcome) (new : WorkerView) → vc ≡ conn.vc
    → ((facts : List Fact) → old.actor ≡ actor_of vc facts → HasDone vc c facts (source.Start now) old outcome new) → Obeys conn c port (Start now) old new
starts conn vc c port now old outcome new same done =
    let P : Channel → Type 0 = λ v. (facts : List Fact) → old.actor ≡ actor_of v facts → HasDone v c facts (source.Start now) old outcome new in
    started conn c port now old outcome new (subst P same done)

pub crashes : (conn : Conn) (vc : Channel) (c port : ℕ) (old : WorkerView) (outcome : Outcome) (new : WorkerView) → vc ≡ conn.vc
    → ((facts : List Fact) → old.actor ≡ actor_of vc facts → HasDone vc c facts source.Crash old outcome new) → Obeys conn c port Crash old new
crashes conn vc c port old outcome new same done =
    let P : Channel → Type 0 = λ v. (facts : List Fact) → old.actor ≡ actor_of v facts → HasDone v c facts source.Crash old outcome new in
    crashed conn c port old outcome new (subst P same done)

pub listens : (conn : Conn) (vc : Channel) (c port turns : ℕ) (old new : WorkerView) → vc ≡ conn.vc → Listened vc c turns old new → Obeys conn c port (Listen turns) old new
listens conn vc c port turns old new same heard =
    let P : Channel → Type 0 = λ v. Listened v c turns old new in listened conn c port turns old new (subst P same heard)

-- what a request comes to, at the line's channel
pub asks_so : (conn : Conn) (vc : Channel) (c port : ℕ) (command : SourceCommand) (old new : WorkerView) → vc ≡ conn.vc
    → ((facts : List Fact) → old.actor ≡ actor_of vc facts → Requests vc c port facts command old new)
    → (facts : List Fact) → old.actor ≡ actor_of conn.vc facts → Requests conn.vc c port facts command old new
asks_so conn vc c port command old new same done =
    let P : Channel → Type 0 = λ v. (facts : List Fact) → old.actor ≡ actor_of v facts → Requests v c port facts command old new in subst P same done

-- a worker that has run commands has an actor that facts give
pub behind_given : (conn : Conn) (vc : Channel) (c port : ℕ) (commands : List Command) (worker : WorkerView) → IsBehind conn c port commands worker → vc ≡ conn.vc → IsGiven vc worker.actor
behind_given conn vc c port commands worker behind same = (behind.0, behind.2.actor ∙ ap (λ (v : Channel). actor_of v behind.0) (sym same))

-- The beginning of a script

pub script_begins : {K F T : Type 0} (net : Topology) (mine : Conn) (port : ℕ) (site : SiteView) (worker : SourceWorker K F T) → HasBegun net site → conn_at net site.conn ≡ Some mine → worker.site ≡ site
    → worker.seat ≡ record { caller = site.conn; receipts = [] } → IsBehind mine worker.site.conn port [] (worked worker)
script_begins {K} {F} {T} net mine port site worker begun at same seated =
    behind_none mine worker.site.conn port (worked worker)
    (ap (λ (s : SiteView). s.actor) same ∙ (begun.actor ∙ ap (λ (v : Channel). actor_of v []) (begun.channel mine at)))
    (seated ∙ ap (λ (n : ℕ). (let s : Seated = record { caller = n; receipts = [] } in s)) (sym (ap (λ (s : SiteView). s.conn) same)))
    (ap (λ (s : SiteView). s.entries) same ∙ begun.entries)
    (ap (λ (s : SiteView). s.arrived) same ∙ begun.arrived)

-- the line of a source, as the run's net has it
pub line_kept : (b : Bool) (kept net : Topology) (c d port : ℕ) (line : Conn) → When b (kept ≡ net) → conn_at net d ≡ Some line → c ≡ d → port ≡ slice_index line.path 0 → When b (IsLine kept c line port)
line_kept true kept net c d port line same at here first = record { known = ap (λ (n : Topology). conn_at n c) same ∙ (ap (conn_at net) here ∙ at); first = first }
line_kept false kept net c d port line same at here first = tt

pub net_kept : (b : Bool) (kept net other : Topology) → When b (kept ≡ net) → other ≡ net → When b (kept ≡ other)
net_kept true kept net other same here = same ∙ sym here
net_kept false kept net other same here = tt

pub in_tolerance_at : (tau : ℕ) (script items : List Command) (index : ℕ) (command : Command) → items ≡ script → index < length items → command ≡ get_or items index command → All (IsInTolerance tau) script → IsInTolerance tau command
in_tolerance_at tau script items index command same low is all =
    let P : List Command → Type 0 = λ xs. All (IsInTolerance tau) xs in
    let here : IsInTolerance tau (get_or items index command) = (subst P (sym same) all) index command low in
    let Q : Command → Type 0 = IsInTolerance tau in subst Q (sym is) here
