-- Cells at a port with a table, one and bursts of them.
use Rattle.std.proofs.Common.{◌≡◌, ◌≢◌, ℕ, zero, suc, ◌+◌, ◌<◌, List, length, set, refl, sym, subst, arith, add-one, get_or-set_other, get_or-set_same}
use Rattle.std.specs.Prelude.{slice_index}
use Rattle.abt_c.specs.Outcome.{first_fault}
use Rattle.abt_c.specs.Tables.{HasHead, IsTable}
use Rattle.abt_c.specs.TableArrivals.{AreArrivals, IsArrival, arrival_of}
use Rattle.abt_c.specs.declared.state.AbtPolicing.{AbtPolicing}
use Rattle.abt_c.specs.declared.table_burst.AbtArrival.{AbtArrival}
use Rattle.abt_c.specs.declared.table_state.AbtTable.{AbtTable}

-- no cell came yet
pub none_arrived : (t : AbtTable) (cells : List AbtArrival) (outcomes : List ℕ) → AreArrivals t cells outcomes 0 t
unfolding AreArrivals
none_arrived t cells outcomes = refl

-- only the outcomes of the first n cells count
arrivals_same : (old new : AbtTable) (cells : List AbtArrival) (xs ys : List ℕ) (n : ℕ) → ((i : ℕ) → i < n → slice_index ys i ≡ slice_index xs i) → AreArrivals old cells xs n new → AreArrivals old cells ys n new
unfolding AreArrivals
arrivals_same old new cells xs ys zero same are = are
arrivals_same old new cells xs ys (suc n) same are =
    let last : slice_index ys n ≡ slice_index xs n = same n (omega arith) in (
      are.0,
      arrivals_same old are.0 cells xs ys n (λ i below. same i (omega arith)) are.1,
      subst (IsArrival (arrival_of cells n) are.0 new) (sym last) are.2,
      subst (λ (k : ℕ). k < first_fault) (sym last) are.3,
    )

-- one cell more came
pub one_more_arrived : (old now new : AbtTable) (cells : List AbtArrival) (outcomes : List ℕ) (n outcome : ℕ) → AreArrivals old cells outcomes n now → n < length outcomes → outcome < first_fault
    → IsArrival (arrival_of cells n) now new outcome → AreArrivals old cells (set outcomes n outcome) (n + 1) new
unfolding AreArrivals
one_more_arrived old now new cells outcomes n outcome are room low came =
    let here : slice_index (set outcomes n outcome) n ≡ outcome = get_or-set_same outcomes n outcome 0 room in
    let before : (i : ℕ) → i < n → slice_index (set outcomes n outcome) i ≡ slice_index outcomes i = λ i below. let other : i ≢ n = omega arith in get_or-set_other outcomes n i outcome 0 other in
    rw add-one (
      now,
      arrivals_same old now cells outcomes (set outcomes n outcome) n before are,
      subst (IsArrival (arrival_of cells n) now new) (sym here) came,
      subst (λ (k : ℕ). k < first_fault) (sym here) low,
    )

-- a table whose policers alone change stays in order
pub table_policed : (t : AbtTable) (policers : List AbtPolicing) → IsTable t → IsTable (record t { policers = policers })
table_policed t policers is = record {
  head = is.head;
  rows = is.rows;
  apart = is.apart;
  last = is.last;
  before = is.before;
  sum = is.sum;
}

-- what a cell leaves of a table
pub head_stays : (t new : AbtTable) → HasHead t → new ≡ record t { policers = new.policers } → HasHead new
head_stays t new head rest = subst (λ (u : AbtTable). HasHead u) (sym rest) head

pub table_stays : (t new : AbtTable) → IsTable t → new ≡ record t { policers = new.policers } → IsTable new
table_stays t new is rest = subst IsTable (sym rest) (table_policed t new.policers is)
