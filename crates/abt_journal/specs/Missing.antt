-- Receipts that aren't their callers' next entries (docs/RULES.md, "Journals").
use Rattle.std.specs.Prelude.{◌≡◌, ℕ, ◌<◌, ◌≤◌, List, take, Some, slice_get}
use Rattle.abt_journal.specs.declared.entry.Entry.{Entry}
use Rattle.abt_journal.specs.declared.entry.Receipt.{Receipt}
use Rattle.abt_journal.specs.Receipts.{Seated, seen_at}
use Rattle.abt_journal.specs.Gathered.{IsEntryOf}

-- Receipt number i of a seat is its caller's entry, and comes after the receipt before it at this port.
pub record IsInOrder (journals : List (List Entry)) (seat : Seated) (i : ℕ) (r : Receipt) : Type 0 where
  pub entry : IsEntryOf journals seat.caller r
  pub after : seen_at r.port (take i seat.receipts) ≤ r.entry.place

-- each receipt of a seat is so
abbrev pub AreInOrder : List (List Entry) → Seated → Type 0
AreInOrder journals seat = (i : ℕ) (r : Receipt) → slice_get seat.receipts i ≡ Some r → IsInOrder journals seat i r

-- each receipt of all seats is so
abbrev pub AllInOrder : List (List Entry) → List Seated → Type 0
AllInOrder journals seats = (k : ℕ) (seat : Seated) → slice_get seats k ≡ Some seat → AreInOrder journals seat

-- Receipt number i is the first of the seat that isn't so.
pub record IsFirstMissingIn (journals : List (List Entry)) (seat : Seated) (i : ℕ) (r : Receipt) : Type 0 where
  pub receipt : slice_get seat.receipts i ≡ Some r
  pub missing : ¬ IsInOrder journals seat i r
  pub none_before : (j : ℕ) (q : Receipt) → j < i → slice_get seat.receipts j ≡ Some q → IsInOrder journals seat j q

-- This port and this place are those of the first receipt of the seat that isn't so.
abbrev pub NamesMissingIn : List (List Entry) → Seated → (port place : ℕ) → Type 0
NamesMissingIn journals seat port place =
    (i : ℕ) × (r : Receipt) × IsFirstMissingIn journals seat i r × (port ≡ r.port) × (place ≡ r.entry.place)

-- The first receipt that isn't so, by seat and order, is of seat number k.
pub record IsFirstMissingOf (journals : List (List Entry)) (seats : List Seated) (k : ℕ) (seat : Seated) (port place : ℕ) : Type 0 where
  pub there : slice_get seats k ≡ Some seat
  pub missing : NamesMissingIn journals seat port place
  pub none_before : (j : ℕ) (other : Seated) → j < k → slice_get seats j ≡ Some other → AreInOrder journals other

-- This port and this place are those of the first receipt that isn't so.
abbrev pub IsFirstMissing : List (List Entry) → List Seated → (port place : ℕ) → Type 0
IsFirstMissing journals seats port place = (k : ℕ) × (seat : Seated) × IsFirstMissingOf journals seats k seat port place
