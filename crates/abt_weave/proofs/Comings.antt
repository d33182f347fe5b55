-- What is read for a port's next entry.
use Rattle.std.proofs.Common.{◌≡◌, ℕ, ◌-◌, ◌<◌, ◌≤◌, refl, ap, true, List, length, reverse, take, ◌∙◌, sym, subst, Some, Vec, arith}
use Rattle.std.specs.Prelude.{slice_get, slice_index, get_or}
use Rattle.std.specs.Global.{Global}
use Rattle.std.proofs.Math.Seq.{take-append_seam}
use Rattle.std.proofs.lemmas.List.{length-append, length-map}
use Rattle.std.proofs.lemmas.Option.{slice_get_within}
use Rattle.abt_net.specs.Topology.{Topology}
use Rattle.abt_model.specs.declared.event.Event.{Event}
use Rattle.abt_model.specs.Answers.{is_hop}
use Rattle.abt_model.specs.PortTable.{hop_visited}
use Rattle.abt_journal.specs.declared.entry.Entry.{Entry}
use Rattle.abt_journal.specs.declared.input.PortInput.{PortInput}
use Rattle.abt_model.specs.declared.entry.SourceEntry.{SourceEntry}
use Rattle.abt_model.specs.declared.journal.SourceJournal.{SourceJournal}
use Rattle.abt_world.specs.Standing.{WorldView}
use Rattle.abt_weave.specs.Projections.{steps_on, entries_on}
use Rattle.abt_weave.specs.Stuck.{RunJournals, source_journal, entries_in, next_entry, IsBeginning}
use Rattle.abt_weave.specs.Candidates.{event_by}
use Rattle.abt_weave.specs.Stops.{IsStop}
use Rattle.abt_weave.specs.Comes.{input_told, Comes, IsComing}
use Rattle.abt_weave.specs.Progress.{journaled, IsPlacing}
use Rattle.abt_weave.proofs.SourceLooks.{place_read, source_read, next_read}
use Rattle.abt_weave.proofs.Candidates.{found, only}

pub stop_low : (net : Topology) (input : PortInput) (p c hop : ℕ) → IsStop net input p c hop → c < length net.conns
stop_low net input p c hop stop = slice_get_within net.conns c stop.conn stop.known

-- how far a source has come
pub record IsBeside (net : Topology) (js : RunJournals) (earlier : List Event) (c : ℕ) (entries : List SourceEntry) (come : ℕ) : Type 0 where
  pub within : come ≤ length entries
  pub placed : take come entries ≡ entries_on net c earlier
  pub next : slice_get entries come ≡ next_entry net js earlier c

taken : (xs ys : List SourceEntry) (n : ℕ) → IsBeginning xs ys → n ≡ length xs → take n ys ≡ xs
taken xs ys n begins is = ap (λ m. take m ys) is ∙ ap (take (length xs)) begins.1 ∙ take-append_seam xs begins.0

taken_low : (xs ys : List SourceEntry) (n : ℕ) → IsBeginning xs ys → n ≡ length xs → n ≤ length ys
taken_low xs ys n begins is = let e = ap (λ l. length l) begins.1 ∙ length-append xs begins.0 in omega (arith, e, is)

pub beside_read : (net : Topology) (ports : List (Vec Entry Global)) (sources : List SourceJournal) (events : List Event) (world : WorldView) (sp pp : List ℕ) (k : ℕ) (j : SourceJournal) (entries : List SourceEntry) (come : ℕ) →
    IsPlacing net (journaled ports sources) events world sp pp → k < length sources → j ≡ get_or sources k j → entries ≡ (get_or sources k j).entries → come ≡ get_or sp k come →
    IsBeside net (journaled ports sources) (reverse events) k entries come
beside_read net ports sources events world sp pp k j entries come progress low read are at =
    let js = journaled ports sources in
    let lowp : k < length sp = subst (λ n. k < n) (sym progress.source_count) low in
    let here : come ≡ length (entries_on net k (reverse events)) = place_read sp (λ d. length (entries_on net d (reverse events))) k come progress.source_places lowp at in
    let journal : source_journal js k ≡ entries = ap entries_in (source_read ports sources k j low read) ∙ ap (λ (x : SourceJournal). x.entries) read ∙ sym are in
    let begins : IsBeginning (entries_on net k (reverse events)) entries = subst (IsBeginning (entries_on net k (reverse events))) journal (progress.placed.conns k) in
    record {
      within = taken_low (entries_on net k (reverse events)) entries come begins here;
      placed = taken (entries_on net k (reverse events)) entries come begins here;
      next = sym (next_read net ports sources events world sp pp k k j entries come progress refl low read are at);
    }

-- the candidate that is found comes
pub coming_found : (net : Topology) (js : RunJournals) (earlier : List Event) (p c hop k place : ℕ) (input : PortInput) (entries : List SourceEntry) (come : ℕ) (event : Event) →
    IsStop net input p c hop → k ≡ c → IsBeside net js earlier k entries come → place ≡ length (steps_on net p earlier) →
    Some event ≡ event_by c hop place input (reverse (take come entries)) (slice_get entries come) → IsComing net js earlier p place input c event
coming_found net js earlier p c hop k place input entries come event stop same beside at is =
    let its = found c hop place input (reverse (take come entries)) (slice_get entries come) event (sym is) in
    let placed : reverse (take come entries) ≡ reverse (entries_on net c earlier) = ap (λ l. reverse l) beside.placed ∙ ap (λ n. reverse (entries_on net n earlier)) same in
    record {
      conn = its.conn;
      comes = record {
        c = c;
        whose = its.conn;
        conn = stop.conn;
        known = stop.known;
        within = subst (λ j. is_hop (length stop.conn.path) j ≡ true) (sym its.hop_is) stop.within;
        port = ap (λ j. slice_index stop.conn.path (j - 1)) its.hop_is ∙ stop.port;
        brings = ap (λ (l : List SourceEntry). input_told stop.conn.vc l event) (sym placed) ∙ its.brings stop.conn.vc stop.channel;
        at = at;
        beside = λ x e. ap (next_entry net js earlier) (sym same) ∙ sym beside.next ∙ its.beside x e;
      };
    }

-- what comes stops at the port
pub comes_stop : (net : Topology) (js : RunJournals) (earlier : List Event) (p place : ℕ) (input : PortInput) (event : Event) → (comes : Comes net js earlier p place input event) →
    IsStop net input p comes.c (hop_visited event)
comes_stop net js earlier p place input event comes =
    let its = only place comes.c comes.conn.vc input (reverse (entries_on net comes.c earlier)) (next_entry net js earlier comes.c) event comes.whose comes.brings comes.beside in
    record { conn = comes.conn; known = comes.known; channel = its.channel; within = comes.within; port = comes.port }

-- and is the candidate
pub coming_only : (net : Topology) (js : RunJournals) (earlier : List Event) (p c hop k place : ℕ) (input : PortInput) (entries : List SourceEntry) (come : ℕ) (event : Event) →
    (comes : Comes net js earlier p place input event) → c ≡ comes.c → hop ≡ hop_visited event → k ≡ c → IsBeside net js earlier k entries come →
    event_by c hop place input (reverse (take come entries)) (slice_get entries come) ≡ Some event
coming_only net js earlier p c hop k place input entries come event comes whose hops same beside =
    let its = only place comes.c comes.conn.vc input (reverse (entries_on net comes.c earlier)) (next_entry net js earlier comes.c) event comes.whose comes.brings comes.beside in
    let here : k ≡ comes.c = same ∙ whose in
    ap (λ n. event_by n hop place input (reverse (take come entries)) (slice_get entries come)) whose
    ∙ ap (λ n. event_by comes.c n place input (reverse (take come entries)) (slice_get entries come)) hops
    ∙ ap (λ l. event_by comes.c (hop_visited event) place input (reverse l) (slice_get entries come)) (beside.placed ∙ ap (λ n. entries_on net n earlier) here)
    ∙ ap (λ o. event_by comes.c (hop_visited event) place input (reverse (entries_on net comes.c earlier)) o) (beside.next ∙ ap (next_entry net js earlier) here)
    ∙ its.is

-- the place of a port is how many steps it has had
pub port_at : (net : Topology) (ports : List (Vec Entry Global)) (sources : List SourceJournal) (events : List Event) (world : WorldView) (sp pp : List ℕ) (p : ℕ) →
    IsPlacing net (journaled ports sources) events world sp pp → p < length ports → slice_index pp p ≡ length (steps_on net p (reverse events))
port_at net ports sources events world sp pp p progress low =
    progress.port_places p (subst (λ n. p < n) (sym (progress.port_count ∙ length-map ports (λ (entries : Vec Entry Global). entries.items))) low)
