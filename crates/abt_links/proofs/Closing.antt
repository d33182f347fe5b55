-- Runs whose ports and sources have ended.
use Rattle.std.proofs.Common.{◌≡◌, ℕ, zero, suc, ◌+◌, List, [], ◌∷◌, ◌++◌, length, map, Some, slice_get, refl, sym, ap, subst, ◌∙◌, append_assoc, inl, inr}
use Rattle.std.specs.Prelude.{◌⊎◌, nat_lt, Bool, true, false, None, if◌then◌else◌}
use mathlib.Core.List.{IsPrefix}
use Rattle.abt_node.specs.Table.{Table}
use Rattle.abt_net.specs.Topology.{Topology}
use Rattle.abt_model.specs.PortTable.{port_table}
use Rattle.abt_model.specs.declared.entry.SourceEntry.{SourceEntry}
use Rattle.abt_model.specs.declared.journal.SourceJournal.{SourceJournal}
use Rattle.abt_journal.specs.declared.entry.Entry.{Entry}
use Rattle.abt_journal.specs.Journaled.{Journaled}
use Rattle.abt_journal.specs.Foreign.{AreOfNet, opening_of}
use Rattle.abt_journal.specs.Gathered.{journals_of}
use Rattle.abt_history.specs.declared.deed.Deed.{Deed}
use Rattle.abt_history.specs.Legal.{IsLegal}
use Rattle.abt_history.specs.Ended.{HasPortEnded, HasSourceEnded, AreEnded, CanBeWoven}
use Rattle.abt_history.specs.Sites.{SiteView}
use Rattle.abt_history.proofs.Fronts.{prefix_trans}
use Rattle.abt_history.proofs.Closing.{one_source, none_ended, can_be_woven}
use Rattle.abt_links.specs.Ends.{HavePortsEnded, journal_of, journals_left}
use Rattle.abt_links.specs.Lines.{AreNumberedFrom}

-- what stands in a list with one more
get_last : {A : Type 0} → (xs : List A) (x y : A) (k : ℕ) → slice_get (xs ++ x ∷ []) k ≡ Some y → (slice_get xs k ≡ Some y) ⊎ (y ≡ x)
get_last [] x y zero h = inr (cc)
get_last [] x y (suc k) h = absurd (cc)
get_last (z ∷ xs) x y zero h = inl h
get_last (z ∷ xs) x y (suc k) h = get_last xs x y k h

pub no_port : (net : Topology) (states : List Journaled) (front : List Deed) → states ≡ [] → HavePortsEnded net states front
no_port net states front none p state is = absurd (let e : slice_get states p ≡ slice_get [] p = ap (λ (l : List Journaled). slice_get l p) none in cc)

pub port_more : (net : Topology) (states all : List Journaled) (state : Journaled) (port : ℕ) (front last both : List Deed) → all ≡ states ++ state ∷ [] → HavePortsEnded net states front → state.opening.id ≡ port → HasPortEnded net port state.entries last
    → IsPrefix front both → IsPrefix last both → HavePortsEnded net all both
port_more net states all state port front last both grown ended id its pre own p found is =
    elim (get_last states state found p (ap (λ (l : List Journaled). slice_get l p) (sym grown) ∙ is)) [
      | inl old ↦ (let e = ended p found old in (e.0, prefix_trans e.0 front both e.1 pre, e.2))
      | inr new ↦ (last, own, subst (λ (s : Journaled). HasPortEnded net s.opening.id s.entries last) (sym new) (subst (λ n. HasPortEnded net n state.entries last) (sym id) its))
    ]

pub no_source : (net : Topology) (journals : List SourceJournal) (front : List Deed) → journals ≡ [] → AreEnded net [] journals front
no_source net journals front none = subst (λ (l : List SourceJournal). AreEnded net [] l front) (sym none) (none_ended net front)

pub source_more : (net : Topology) (journals all : List SourceJournal) (journal : SourceJournal) (conn : ℕ) (front last both : List Deed) → all ≡ journals ++ journal ∷ [] → AreEnded net [] journals front → conn ≡ length journals → HasSourceEnded net conn journal.entries last
    → IsPrefix front both → IsPrefix last both → AreEnded net [] all both
source_more net journals all journal conn front last both grown ended at its pre own =
    subst (λ (l : List SourceJournal). AreEnded net [] l both) (sym grown) (one_source net [] journals journal front last both ended (subst (λ n. HasSourceEnded net n journal.entries last) at its) pre own)

-- the ports are those of their places
map_get : {A B : Type 0} (f : A → B) (xs : List A) (k : ℕ) (x : A) → slice_get xs k ≡ Some x → slice_get (map f xs) k ≡ Some (f x)
map_get f [] k x is = absurd (cc)
map_get f (y ∷ xs) zero x is = (let same : y ≡ x = cc in ap (λ z. Some (f z)) same)
map_get f (y ∷ xs) (suc k) x is = map_get f xs k x is

get_map : {A B : Type 0} (f : A → B) (xs : List A) (k : ℕ) (y : B) → slice_get (map f xs) k ≡ Some y → (x : A) × (slice_get xs k ≡ Some x) × (y ≡ f x)
get_map f [] k y is = absurd (cc)
get_map f (x ∷ xs) zero y is = (x, refl, cc)
get_map f (x ∷ xs) (suc k) y is = get_map f xs k y is

port_of : (net : Topology) (p : ℕ) (table : Table) → opening_of net p ≡ Some table → table.id ≡ p
port_of net p table is = by (nat_lt p (length net.capacities)) is
  where
    by : (b : Bool) → (if b then Some (port_table net [] p) else None) ≡ Some table → table.id ≡ p
    by true h = (let same : port_table net [] p ≡ table = cc in ap (λ (t : Table). t.id) (sym same))
    by false h = absurd (cc)

pub all_woven : (net : Topology) (states : List Journaled) (journals : List (List Entry)) (sources : List SourceJournal) (ports front : List Deed) → IsLegal net front → journals ≡ journals_of states → AreOfNet net states
    → HavePortsEnded net states ports → AreEnded net [] sources front → IsPrefix ports front → CanBeWoven net journals sources
all_woven net states journals sources ports front legal left of ended sites pre =
    let all : AreEnded net (journals_of states) sources front = record {
      ports = λ p entries is.
          (let its = get_map (λ (s : Journaled). s.entries) states p entries is in
          let table = map_get (λ (s : Journaled). s.opening) states p its.0 its.1 in
          let id : its.0.opening.id ≡ p = port_of net p its.0.opening (sym (of p) ∙ table) in
          let e = ended p its.0 its.1 in
          (e.0, prefix_trans e.0 ports front e.1 pre, subst (λ (l : List Entry). HasPortEnded net p l e.0) (sym its.2) (subst (λ n. HasPortEnded net n its.0.entries e.0) id e.2)));
      conns = sites.conns;
    } in
    can_be_woven net journals sources front legal (subst (λ (js : List (List Entry)). AreEnded net js sources front) (sym left) all)

-- the next source of a list
pub numbered_next : (n : ℕ) (old new : List SiteView) (site : SiteView) → old ≡ site ∷ new → AreNumberedFrom n old → (site.conn ≡ n) × AreNumberedFrom (n + 1) new
numbered_next n old new site is all = subst (AreNumberedFrom n) is all

-- a journal that was taken stands behind the others
pub left_more : (journals all : List SourceJournal) (journal : SourceJournal) (old new : List SiteView) (site : SiteView) (whole : List SourceJournal) → old ≡ site ∷ new → all ≡ journals ++ journal ∷ [] → journal.entries ≡ site.entries
    → journals ++ journals_left old ≡ whole → all ++ journals_left new ≡ whole
left_more journals all journal old new site whole taken grown same is =
    let here : journal ≡ journal_of site = (let f : List SourceEntry → SourceJournal = λ es. record { entries = es } in ap f same) in
    ap (λ (l : List SourceJournal). l ++ journals_left new) grown
    ∙ append_assoc journals (journal ∷ []) (journals_left new)
    ∙ ap (λ (j : SourceJournal). journals ++ j ∷ journals_left new) here
    ∙ ap (λ (l : List SiteView). journals ++ journals_left l) (sym taken)
    ∙ is
