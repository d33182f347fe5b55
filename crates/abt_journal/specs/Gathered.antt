-- Journals of ports with the receipts of their callers (docs/RULES.md, "Journals").
use Rattle.std.specs.Prelude.{◌≡◌, ◌≢◌, ℕ, ◌<◌, ◌==◌, List, [], map, length, sum_by, All, AllPairs, Any, Some, slice_get, slice_index_or}
use Rattle.std.specs.List.{filter}
use Rattle.abt_journal.specs.declared.entry.Entry.{Entry}
use Rattle.abt_journal.specs.declared.entry.Receipt.{Receipt}
use Rattle.abt_journal.specs.Journaled.{Journaled}
use Rattle.abt_journal.specs.Receipts.{Seated, entries_at}

-- the journals of the states
abbrev pub journals_of : List Journaled → List (List Entry)
journals_of states = map (λ s. s.entries) states

-- the journal of port p
abbrev pub journal_at : List (List Entry) → ℕ → List Entry
journal_at journals p = slice_index_or journals p []

-- how many entries there are
abbrev pub entries_in : List (List Entry) → ℕ
entries_in journals = sum_by length journals

-- how many receipts there are
abbrev pub receipts_in : List Seated → ℕ
receipts_in seats = sum_by (λ s. length s.receipts) seats

-- No two seats are of one caller.
abbrev pub AreDistinct : List Seated → Type 0
AreDistinct seats = AllPairs (λ s t. s.caller ≢ t.caller) seats

-- There are as many receipts as entries, and no two seats are of one caller.
pub record CountsFit (journals : List (List Entry)) (seats : List Seated) : Type 0 where
  pub counts : receipts_in seats ≡ entries_in journals
  pub callers : AreDistinct seats

-- A receipt's entry is the caller's, and stands in the journal of its port at its place.
pub record IsEntryOf (journals : List (List Entry)) (caller : ℕ) (r : Receipt) : Type 0 where
  pub there : slice_get (journal_at journals r.port) r.entry.place ≡ Some r.entry
  pub own : r.entry.caller ≡ caller

-- At each port the places of receipts rise.
abbrev pub PlacesRise : List Receipt → Type 0
PlacesRise receipts = AllPairs (λ q r. q.port ≡ r.port → q.entry.place < r.entry.place) receipts

-- The receipts of all callers beside the journals, one by one.
pub record AreGathered (journals : List (List Entry)) (seats : List Seated) : Type 0 where
  pub entries : All (λ s. All (IsEntryOf journals s.caller) s.receipts) seats
  pub rise : All (λ s. PlacesRise s.receipts) seats
  pub counts : receipts_in seats ≡ entries_in journals
  pub callers : AreDistinct seats

-- a caller's entries in a journal, in order
abbrev pub entries_of : ℕ → List Entry → List Entry
entries_of caller entries = filter (λ e. e.caller == caller) entries

-- The receipts are the entries, each once, in each caller's order: at each port a caller's receipts are its entries there,
-- and each entry is of a caller that has a seat, and only one.
pub record AreReceipts (journals : List (List Entry)) (seats : List Seated) : Type 0 where
  pub same : (p : ℕ) → All (λ s. entries_at p s.receipts ≡ entries_of s.caller (journal_at journals p)) seats
  pub known : (p : ℕ) → All (λ e. Any (λ s. s.caller ≡ e.caller) seats) (journal_at journals p)
  pub callers : AreDistinct seats
