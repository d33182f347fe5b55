-- Ports and sources that end, and runs of which all have ended.
use Rattle.std.proofs.Common.{◌≡◌, ℕ, zero, suc, ◌+◌, ◌<◌, Bool, true, false, List, [], ◌∷◌, ◌++◌, length, map, reverse, refl, ap, sym, subst, ◌∙◌, arith, ◌⊎◌, inl, inr, Some}
use Rattle.std.specs.Prelude.{◌==◌, ◌||◌, slice_get}
use Rattle.std.proofs.lemmas.Bool.{cond-true, eq-eqb}
use mathlib.Core.List.{IsPrefix}
use Rattle.abt_net.specs.Topology.{Topology}
use Rattle.abt_model.specs.declared.journal.SourceJournal.{SourceJournal}
use Rattle.abt_journal.specs.declared.entry.Entry.{Entry}
use Rattle.abt_weave.specs.Projections.{steps_on, entries_on}
use Rattle.abt_weave.proofs.Turns.{steps_turns}
use Rattle.abt_history.specs.declared.deed.Deed.{Deed}
use Rattle.abt_history.specs.declared.deed.Deed.TheVariants.{Happens, Goes, EndsPort, EndsSource, Comes}
use Rattle.abt_history.specs.Histories.{happened, ends_of_port, out_after, is_out, has_ended}
use Rattle.abt_history.specs.Legal.{IsLegal, IsStep, MayNote, IsNoted, with_turns}
use Rattle.abt_history.specs.Ended.{HasPortEnded, HasSourceEnded, AreEnded, CanBeWoven}
use Rattle.abt_history.specs.Sites.{SiteView, IsHome, IsSite}
use Rattle.abt_history.specs.Stations.{StationView, IsStation}
use Rattle.abt_history.proofs.Did.{home_at, home_turned}
use Rattle.abt_history.proofs.Ending.{ended_woven, ended_rates}
use Rattle.abt_history.proofs.Fronts.{prefix_trans}
use Rattle.abt_history.proofs.Growing.{happened-append, happened_turned, ends-append, as_seen, turned, with_turned}
use Rattle.abt_history.proofs.Marks.{source_ends, port_ends}
use Rattle.abt_history.proofs.Stations.{deeds_of}
use Rattle.abt_history.proofs.Turning.{out-append, away_still}

pub may_end_port : (net : Topology) (port deeds : ℕ) (own seen : List Deed) → port < length net.capacities → MayNote net own seen port deeds (EndsPort port)
may_end_port net port deeds own seen low log mine theirs legal count =
    record { turns = []; all = tt; deed = EndsPort port; does = refl; step = port_ends net port log low legal }

pub port_ended : (net : Topology) (station : StationView) (seen new : List Deed) (deeds : ℕ) → IsStation net station → deeds ≡ length station.state.entries → IsNoted net station.front seen new station.port deeds (EndsPort station.port) → HasPortEnded net station.port station.state.entries new
port_ended net station seen new deeds its all noted =
    let port = station.port in
    let before = noted.log in
    let these = noted.next.turns in
    let log = turned before these in
    let new_is : new ≡ log ++ EndsPort port ∷ [] = noted.new_is ∙ ap (λ (d : Deed). before ++ with_turns these d) noted.next.does ∙ with_turned before these (EndsPort port) in
    let same = as_seen net port station.front before its.low noted.mine (noted.count ∙ all ∙ sym (deeds_of net station its)) in
    let ends = ap (ends_of_port port) new_is ∙ ends-append port log (EndsPort port ∷ []) in
    let one : ends_of_port port (EndsPort port ∷ []) ≡ 1 = cond-true _ _ _ (eq-eqb port port refl) in
    record {
      ended = omega (arith, ends, one);
      steps = ap (λ (l : List Deed). steps_on net port (happened l)) new_is ∙ ap (steps_on net port) (happened-append log (EndsPort port ∷ []) ∙ happened_turned before these)
          ∙ steps_turns net (happened before) these noted.next.all port ∙ same.steps ∙ its.steps;
    }

pub may_end_source : (net : Topology) (c turns key : ℕ) (own seen : List Deed) → key ≡ length net.capacities + c → IsHome net c turns own → MayNote net own seen key turns (EndsSource c)
may_end_source net c turns key own seen key_is home log pre theirs legal count =
    let stays = home_at net c turns key own log key_is pre legal home count in
    record { turns = []; all = tt; deed = EndsSource c; does = refl; step = subst (λ k. IsStep net k log (with_turns [] (EndsSource c))) (sym key_is) (source_ends net c own log stays) }

ended_last : (c : ℕ) (log : List Deed) → has_ended c (log ++ EndsSource c ∷ []) ≡ true
ended_last c [] = ap (λ b. b || false) (eq-eqb c c refl)
ended_last c (Happens event ∷ log) = ended_last c log
ended_last c (Goes d ∷ log) = ended_last c log
ended_last c (EndsPort p ∷ log) = ended_last c log
ended_last c (Comes p input ∷ log) = ended_last c log
ended_last c (EndsSource d ∷ log) = or_true (d == c) (ended_last c log)
  where
    or_true : (a : Bool) {b : Bool} → b ≡ true → (a || b) ≡ true
    or_true true h = refl
    or_true false h = h

pub source_ended : (net : Topology) (site : SiteView) (seen new : List Deed) (turns key : ℕ) → IsSite net site → key ≡ length net.capacities + site.conn → turns ≡ length site.entries → IsNoted net site.front seen new key turns (EndsSource site.conn) →
    HasSourceEnded net site.conn site.entries new
source_ended net site seen new turns key its key_is all noted =
    let c = site.conn in
    let own = site.front in
    let before = noted.log in
    let these = noted.next.turns in
    let stays = home_turned net c own before these (home_at net c (length site.entries) key own before key_is noted.mine noted.legal its.home (noted.count ∙ all)) noted.next.all in
    let log = turned before these in
    let new_is : new ≡ log ++ EndsSource c ∷ [] = noted.new_is ∙ ap (λ (d : Deed). before ++ with_turns these d) noted.next.does ∙ with_turned before these (EndsSource c) in
    let away = away_still net c own log stays.pre stays.legal stays.out stays.turns in
    record {
      ended = ap (has_ended c) new_is ∙ ended_last c log;
      home = ap (is_out c) new_is ∙ out-append c false log (EndsSource c ∷ []) ∙ ap (λ b. out_after c b (EndsSource c ∷ [])) away.1;
      did = ap (λ (l : List Deed). entries_on net c (happened l)) new_is ∙ ap (entries_on net c) (happened-append log (EndsSource c ∷ [])) ∙ away.0.entries ∙ its.did;
    }

-- what stands in a list with one more
get_last : {A : Type 0} → (xs : List A) (x y : A) (k : ℕ) → slice_get (xs ++ x ∷ []) k ≡ Some y → (slice_get xs k ≡ Some y) ⊎ ((k ≡ length xs) × (y ≡ x))
get_last [] x y zero h = inr (refl, cc)
get_last [] x y (suc k) h = absurd (cc)
get_last (z ∷ xs) x y zero h = inl h
get_last (z ∷ xs) x y (suc k) h = elim (get_last xs x y k h) [ inl old ↦ inl old | inr last ↦ inr (ap suc last.0, last.1) ]

pub none_ended : (net : Topology) (log : List Deed) → AreEnded net [] [] log
none_ended net log = record { ports = λ p entries is. absurd (cc); conns = λ c journal is. absurd (cc) }

pub one_port : (net : Topology) (journals : List (List Entry)) (sources : List SourceJournal) (entries : List Entry) (front one log : List Deed) → AreEnded net journals sources front → HasPortEnded net (length journals) entries one → IsPrefix front log → IsPrefix one log →
    AreEnded net (journals ++ entries ∷ []) sources log
one_port net journals sources entries front one log ended port pre last = record {
  ports = λ p found is. elim (get_last journals entries found p is) [
    | inl old ↦ (let its = ended.ports p found old in (its.0, prefix_trans its.0 front log its.1 pre, its.2))
    | inr new ↦ (one, last, subst (λ (l : List Entry). HasPortEnded net p l one) (sym new.1) (subst (λ n. HasPortEnded net n entries one) (sym new.0) port))
  ];
  conns = λ c journal is. (let its = ended.conns c journal is in (its.0, prefix_trans its.0 front log its.1 pre, its.2));
}

pub one_source : (net : Topology) (journals : List (List Entry)) (sources : List SourceJournal) (journal : SourceJournal) (front one log : List Deed) → AreEnded net journals sources front → HasSourceEnded net (length sources) journal.entries one → IsPrefix front log → IsPrefix one log →
    AreEnded net journals (sources ++ journal ∷ []) log
one_source net journals sources journal front one log ended source pre last = record {
  ports = λ p entries is. (let its = ended.ports p entries is in (its.0, prefix_trans its.0 front log its.1 pre, its.2));
  conns = λ c found is. elim (get_last sources journal found c is) [
    | inl old ↦ (let its = ended.conns c found old in (its.0, prefix_trans its.0 front log its.1 pre, its.2))
    | inr new ↦ (one, last, subst (λ (j : SourceJournal). HasSourceEnded net c j.entries one) (sym new.1) (subst (λ n. HasSourceEnded net n journal.entries one) (sym new.0) source))
  ];
}

pub can_be_woven : (net : Topology) (journals : List (List Entry)) (sources : List SourceJournal) (log : List Deed) → IsLegal net log → AreEnded net journals sources log → CanBeWoven net journals sources
can_be_woven net journals sources log legal ended = (reverse (happened log), ended_rates net log legal, ended_woven net journals sources log legal ended)

pub map_last : {A B : Type 0} (f : A → B) (xs : List A) (x : A) → map f (xs ++ x ∷ []) ≡ map f xs ++ f x ∷ []
map_last f [] x = refl
map_last f (y ∷ xs) x = ap (λ l. f y ∷ l) (map_last f xs x)
