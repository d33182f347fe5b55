-- From receipts to entries.
use Rattle.std.proofs.Common.{◌≡◌, ◌≢◌, ℕ, ◌+◌, ◌<◌, ◌≤◌, ◌==◌, Bool, true, false, cond, append_assoc, zero, suc, List, [], ◌∷◌, ◌++◌, length, map, All, Any, Some, slice_get, slice_index, refl, sym, ap, subst, ◌∙◌, arith}
use Rattle.std.specs.List.{filter}
use Rattle.std.proofs.lemmas.Bool.Decides.{nat_tests}
use Rattle.std.proofs.lemmas.List.Elements.{All-nil, All-cons, All-append, All-map, All-filter}
use Rattle.abt_net.specs.Topology.{Topology, conn_at}
use Rattle.abt_net.specs.declared.conn.Conn.{Conn}
use Rattle.abt_journal.specs.declared.entry.Entry.{Entry}
use Rattle.abt_journal.specs.declared.entry.Receipt.{Receipt}
use Rattle.abt_journal.specs.Receipts.{Seated, entries_at}
use Rattle.abt_journal.specs.Gathered.{journal_at, entries_of, AreReceipts}
use Rattle.abt_model.specs.declared.script_command.Command.{Command}
use Rattle.abt_history.specs.Sites.{SiteView}
use Rattle.abt_links.specs.CommandEffects.{LineStep}
use Rattle.abt_links.specs.Scripts.{RunsScript, step_of}
use Rattle.abt_links.specs.Messages.{IsMessage}
use Rattle.abt_journal.specs.declared.input.PortInput.{PortInput}
use Rattle.abt_links.specs.Operations.{AreReceiptsFor, handed_in, handed_by, handed_to}
use Rattle.abt_journal.specs.Foreign.{AreHistories}
use Rattle.abt_links.specs.Runs.{ScriptsFit, IsRunOf, AreRunsFrom, IsMessageEntry, IsRun}
use Rattle.abt_links.specs.Promises.{IsAccess, IsOperator, AreSourcesFrom, AreLinkSeatsFrom, AreWorked}
use Rattle.abt_links.specs.Ends.{journal_of, journals_left}
use Rattle.abt_links.specs.declared.worker_results.WorkerResults.{WorkerResults}
use Rattle.abt_links.specs.declared.gathered.Gathered.{Gathered}
use Rattle.abt_links.proofs.Fitting.{fits_length}

same_port : (p q : ℕ) → p ≡ q → (p == q) ≡ true
same_port p q h = grind (arith, nat_tests)

other_port : (p q r : ℕ) → p ≡ q → r ≢ q → (p == r) ≡ false
other_port p q r h apart = grind (arith, nat_tests)

-- receipts of one port alone

tail_of : (port : ℕ) (r : Receipt) (rs : List Receipt) → All (λ (q : Receipt). q.port ≡ port) (r ∷ rs) → All (λ (q : Receipt). q.port ≡ port) rs
tail_of port r rs all = λ k d low. all (suc k) d (omega arith)

all_there : (port : ℕ) (rs : List Receipt) → All (λ (r : Receipt). r.port ≡ port) rs → map step_of (entries_at port rs) ≡ map (λ (r : Receipt). step_of r.entry) rs
all_there port [] all = refl
all_there port (r ∷ rs) all =
    rw (same_port r.port port (all 0 r (omega arith))) (ap (λ (steps : List LineStep). step_of r.entry ∷ steps) (all_there port rs (tail_of port r rs all)))

none_elsewhere : (port q : ℕ) (rs : List Receipt) → q ≢ port → All (λ (r : Receipt). r.port ≡ port) rs → entries_at q rs ≡ []
none_elsewhere port q [] apart all = refl
none_elsewhere port q (r ∷ rs) apart all = rw (other_port r.port port q (all 0 r (omega arith)) apart) (none_elsewhere port q rs apart (tail_of port r rs all))

-- what the seats say of the journals
abbrev pub SameEntries : List (List Entry) → List Seated → Type 0
SameEntries js seats = (p : ℕ) → All (λ (s : Seated). entries_at p s.receipts ≡ entries_of s.caller (journal_at js p)) seats

run_of : (net : Topology) (c : ℕ) (line : Conn) (script : List Command) (seat : Seated) (source : SiteView) (js : List (List Entry)) → conn_at net c ≡ Some line → IsAccess net c script seat source
    → ((p : ℕ) → entries_at p seat.receipts ≡ entries_of seat.caller (journal_at js p)) → IsRunOf line c script js (journal_of source)
run_of net c line script seat source js there access same =
    let port : ℕ = slice_index line.path 0 in
    let here : (p : ℕ) → entries_at p seat.receipts ≡ entries_of c (journal_at js p) = λ p. same p ∙ ap (λ (k : ℕ). entries_of k (journal_at js p)) access.caller in
    let steps : map (λ (r : Receipt). step_of r.entry) seat.receipts ≡ map step_of (entries_of c (journal_at js port)) =
    sym (all_there port seat.receipts (access.first line there)) ∙ ap (map step_of) (here port) in
    let P : List LineStep → Type 0 = RunsScript line c script source.entries in
    record {
      runs = subst P steps (access.runs line there);
      elsewhere = λ p apart. sym (here p) ∙ none_elsewhere port p seat.receipts apart (access.first line there);
    }

runs_from : (net : Topology) (n : ℕ) (conns : List Conn) (scripts : List (List Command)) (seats links : List Seated) (sources : List SiteView) (js : List (List Entry))
    → ((k : ℕ) (line : Conn) → slice_get conns k ≡ Some line → conn_at net (n + k) ≡ Some line) → ScriptsFit conns scripts → AreSourcesFrom net n scripts seats sources → SameEntries js (seats ++ links)
    → AreRunsFrom n conns scripts js (journals_left sources)
runs_from net n [] [] [] links [] js at fit ran same = tt
runs_from net n [] [] [] links (j ∷ sources) js at fit ran same = absurd ran
runs_from net n [] [] (s ∷ seats) links sources js at fit ran same = absurd ran
runs_from net n [] (script ∷ scripts) seats links sources js at fit ran same = absurd fit
runs_from net n (conn ∷ conns) [] seats links sources js at fit ran same = absurd fit
runs_from net n (conn ∷ conns) (script ∷ scripts) [] links sources js at fit ran same = absurd ran
runs_from net n (conn ∷ conns) (script ∷ scripts) (s ∷ seats) links [] js at fit ran same = absurd ran
runs_from net n (conn ∷ conns) (script ∷ scripts) (s ∷ seats) links (j ∷ sources) js at fit ran same = (
  run_of net n conn script s j js (ap (conn_at net) (omega arith) ∙ at 0 conn refl) ran.0 (λ p. same p 0 s (omega arith)),
  runs_from net (n + 1) conns scripts seats links sources js (λ k line there. ap (conn_at net) (omega arith) ∙ at (suc k) line there) fit.1 ran.1 (λ p k d low. same p (suc k) d (omega arith)),
)

sources_run : (net : Topology) (scripts : List (List Command)) (seats links all : List Seated) (sources : List SiteView) (js : List (List Entry)) → ScriptsFit net.conns scripts
    → AreSourcesFrom net 0 scripts seats sources → all ≡ seats ++ links → AreReceipts js all → AreRunsFrom 0 net.conns scripts js (journals_left sources)
sources_run net scripts seats links all sources js fit ran joined receipts =
    let P : List Seated → Type 0 = SameEntries js in
    runs_from net 0 net.conns scripts seats links sources js (λ k line there. ap (conn_at net) (omega arith) ∙ there) fit ran (subst P joined receipts.same)

-- what link workers leave

later_seats : (js : List (List Entry)) (s : Seated) (seats : List Seated) → SameEntries js (s ∷ seats) → SameEntries js seats
later_seats js s seats same p k d low = same p (suc k) d (omega arith)

links_only : (n : ℕ) (links : List Seated) (js : List (List Entry)) (k p : ℕ) → AreLinkSeatsFrom n links → SameEntries js links → k < length links
    → All IsMessageEntry (entries_of (n + k) (journal_at js p))
links_only n [] js k p are same low = absurd (omega arith)
links_only n (s ∷ links) js zero p are same low =
    let own : s.caller ≡ n + 0 = are.0.own ∙ omega arith in
    let here : entries_at p s.receipts ≡ entries_of (n + 0) (journal_at js p) = same p 0 s (omega arith) ∙ ap (λ (c : ℕ). entries_of c (journal_at js p)) own in
    let P : List Entry → Type 0 = All IsMessageEntry in
    subst P here (All-map IsMessageEntry (λ (r : Receipt). r.entry) (filter (λ (r : Receipt). r.port == p) s.receipts) (All-filter (λ (r : Receipt). r.port == p) IsMessage s.receipts are.0.messages))
links_only n (s ∷ links) js (suc k) p are same low =
    let P : ℕ → Type 0 = λ c. All IsMessageEntry (entries_of c (journal_at js p)) in
    let place : n + 1 + k ≡ n + suc k = omega arith in
    subst P place (links_only (n + 1) links js k p are.1 (later_seats js s links same) (omega arith))

same_behind : (js : List (List Entry)) (seats rest : List Seated) → SameEntries js (seats ++ rest) → SameEntries js rest
same_behind js [] rest same = same
same_behind js (s ∷ seats) rest same = same_behind js seats rest (later_seats js s (seats ++ rest) same)

first_seat : (js : List (List Entry)) (s : Seated) (rest : List Seated) → SameEntries js (s ∷ rest) → (p : ℕ) → entries_at p s.receipts ≡ entries_of s.caller (journal_at js p)
first_seat js s rest same p = same p 0 s (omega arith)

same_before : (js : List (List Entry)) (seats rest : List Seated) → SameEntries js (seats ++ rest) → SameEntries js seats
same_before js [] rest same p = All-nil (λ (s : Seated). entries_at p s.receipts ≡ entries_of s.caller (journal_at js p))
same_before js (s ∷ seats) rest same p =
    All-cons (λ (t : Seated). entries_at p t.receipts ≡ entries_of t.caller (journal_at js p)) s seats (first_seat js s (seats ++ rest) same p)
    (same_before js seats rest (later_seats js s (seats ++ rest) same) p)

-- what the operator leaves

handed_head : (r : Receipt) (rs : List Receipt) (o : ℕ × ℕ) (os : List (ℕ × ℕ)) → AreReceiptsFor (o ∷ os) (r ∷ rs) → (r.port ≡ o.0) × (r.entry.input ≡ (handed_by o).1) × AreReceiptsFor os rs
handed_head r rs o os are =
    let first : handed_in r ≡ handed_by o = cc in
    let rest : map handed_in rs ≡ map handed_by os = cc in
    (ap (λ (h : ℕ × PortInput). h.0) first, ap (λ (h : ℕ × PortInput). h.1) first, rest)

handed_step : (b d : Bool) (r : Receipt) (rs : List Receipt) (o : ℕ × ℕ) (os : List (ℕ × ℕ)) → b ≡ d → r.entry.input ≡ (handed_by o).1
    → map (λ (e : Entry). e.input) (map (λ (x : Receipt). x.entry) rs) ≡ map (λ (x : ℕ × ℕ). (handed_by x).1) os
    → map (λ (e : Entry). e.input) (map (λ (x : Receipt). x.entry) (cond b (r ∷ rs) rs)) ≡ map (λ (x : ℕ × ℕ). (handed_by x).1) (cond d (o ∷ os) os)
handed_step true true r rs o os same here rest = λ i. here i ∷ rest i
handed_step true false r rs o os same here rest = absurd (cc)
handed_step false true r rs o os same here rest = absurd (cc)
handed_step false false r rs o os same here rest = rest

operator_at : (p : ℕ) (os : List (ℕ × ℕ)) (rs : List Receipt) → AreReceiptsFor os rs → map (λ (e : Entry). e.input) (entries_at p rs) ≡ handed_to p os
operator_at p [] [] are = refl
operator_at p [] (r ∷ rs) are = absurd (cc)
operator_at p (o ∷ os) [] are = absurd (cc)
operator_at p (o ∷ os) (r ∷ rs) are =
    let h = handed_head r rs o os are in
    let rest = operator_at p os rs h.2 in
    handed_step (r.port == p) (o.0 == p) r (filter (λ (x : Receipt). x.port == p) rs) o (filter (λ (x : ℕ × ℕ). x.0 == p) os) (ap (λ n. n == p) h.0) h.1 rest

operator_left : (caller : ℕ) (operations : List (ℕ × ℕ)) (seat : Seated) (js : List (List Entry)) (p : ℕ) → IsOperator caller operations seat
    → entries_at p seat.receipts ≡ entries_of seat.caller (journal_at js p) → map (λ (e : Entry). e.input) (entries_of caller (journal_at js p)) ≡ handed_to p operations
operator_left caller operations seat js p is same =
    let own : entries_of caller (journal_at js p) ≡ entries_at p seat.receipts = ap (λ (c : ℕ). entries_of c (journal_at js p)) (sym is.own) ∙ sym same in
    ap (map (λ (e : Entry). e.input)) own ∙ operator_at p operations seat.receipts is.receipts

-- callers

sources_low : (net : Topology) (n most : ℕ) (scripts : List (List Command)) (seats : List Seated) (sources : List SiteView) → AreSourcesFrom net n scripts seats sources → n + length scripts ≤ most
    → All (λ (s : Seated). s.caller < most) seats
sources_low net n most [] [] [] ran low = All-nil (λ (s : Seated). s.caller < most)
sources_low net n most [] [] (j ∷ sources) ran low = absurd ran
sources_low net n most [] (s ∷ seats) sources ran low = absurd ran
sources_low net n most (script ∷ scripts) [] sources ran low = absurd ran
sources_low net n most (script ∷ scripts) (s ∷ seats) [] ran low = absurd ran
sources_low net n most (script ∷ scripts) (s ∷ seats) (j ∷ sources) ran low =
    let own : s.caller ≡ n = ran.0.caller in
    All-cons (λ (t : Seated). t.caller < most) s seats (omega arith) (sources_low net (n + 1) most scripts seats sources ran.1 (omega arith))

links_low : (n most : ℕ) (links : List Seated) → AreLinkSeatsFrom n links → n + length links ≤ most → All (λ (s : Seated). s.caller < most) links
links_low n most [] are low = All-nil (λ (s : Seated). s.caller < most)
links_low n most (s ∷ links) are low =
    let own : s.caller ≡ n = are.0.own in
    All-cons (λ (t : Seated). t.caller < most) s links (omega arith) (links_low (n + 1) most links are.1 (omega arith))

callers_low : (most : ℕ) (seats : List Seated) (js : List Entry) → All (λ (s : Seated). s.caller < most) seats → All (λ (e : Entry). Any (λ (s : Seated). s.caller ≡ e.caller) seats) js
    → All (λ (e : Entry). e.caller < most) js
callers_low most seats js low known k d below =
    let a = known k d below in
    let h = low a.0 a.1 a.2 in
    let same = ap (λ (s : Seated). s.caller) a.3 in
    let own = a.4 in
    omega (arith, h, same, own)

callers_most : (most : ℕ) (js : List Entry) → All (λ (e : Entry). e.caller < most + 1) js → All (λ (e : Entry). e.caller ≤ most) js
callers_most most js low k d below = let h = low k d below in omega (arith, h)

pub ended : {K F T : Type 0} (net : Topology) (scripts : List (List Command)) (operations : List (ℕ × ℕ)) (workers : ℕ) (worked : WorkerResults K F T) (all : List Seated) (run : Gathered) → ScriptsFit net.conns scripts
    → AreWorked net scripts operations workers worked → all ≡ (worked.accesses.items ++ worked.links.items) ++ worked.operator ∷ [] → AreHistories net run.journals → AreReceipts run.journals all
    → run.sources.items ≡ journals_left worked.sites.items → IsRun net scripts operations workers run
ended net scripts operations workers worked all run fit done joined histories receipts left =
    let js : List (List Entry) = run.journals in
    let seats : List Seated = worked.accesses.items in
    let links : List Seated = worked.links.items in
    let last : List Seated = worked.operator ∷ [] in
    let whole : all ≡ seats ++ (links ++ last) = joined ∙ append_assoc seats links last in
    let P : List Seated → Type 0 = SameEntries js in
    let same : SameEntries js (seats ++ (links ++ last)) = subst P whole receipts.same in
    let behind : SameEntries js (links ++ last) = same_behind js seats (links ++ last) same in
    let count : length links ≡ workers = done.count in
    let fits : length scripts ≡ length net.conns = fits_length net.conns scripts fit in
    let most : ℕ = length net.conns + workers + 1 in
    let own : worked.operator.caller ≡ length net.conns + workers = done.operator.own in
    let low : All (λ (s : Seated). s.caller < most) (seats ++ (links ++ last)) =
    All-append (λ (s : Seated). s.caller < most) seats (links ++ last) (sources_low net 0 most scripts seats worked.sites.items done.sources (omega arith))
    (All-append (λ (s : Seated). s.caller < most) links last (links_low (length net.conns) most links done.links (omega arith))
    (All-cons (λ (s : Seated). s.caller < most) worked.operator [] (omega arith) (All-nil (λ (s : Seated). s.caller < most)))) in
    let Q : List Seated → Type 0 = All (λ (s : Seated). s.caller < most) in
    record {
      histories = histories;
      sources = subst (AreRunsFrom 0 net.conns scripts js) (sym left) (sources_run net scripts seats (links ++ last) all worked.sites.items js fit done.sources whole receipts);
      links = λ k p below. links_only (length net.conns) links js k p done.links (same_before js links last behind) (omega arith);
      operator = λ p. operator_left (length net.conns + workers) operations worked.operator js p done.operator (first_seat js worked.operator [] (same_behind js links last behind) p);
      callers = λ p. callers_most (length net.conns + workers) (journal_at js p) (callers_low most all (journal_at js p) (subst Q (sym whole) low) (receipts.known p));
    }
