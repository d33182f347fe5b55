-- What a seat keeps of the journals that its caller has seen: mechanism, which only proofs need.
use Rattle.std.specs.Prelude.{◌≡◌, ℕ, ◌+◌, ◌<◌, ◌^◌, List, All, slice_index_or}
use Rattle.abt_journal.specs.declared.entry.Receipt.{Receipt}
use Rattle.abt_journal.specs.Receipts.{seen_at}

-- the count of a port: 0 past the last of the counts
abbrev pub count_at : List ℕ → ℕ → ℕ
count_at counts port = slice_index_or counts port 0

-- what holds of a seat: one more than each place is a number of 64 bits, and the counts are what was seen of each port
pub record AreCounted (receipts : List Receipt) (counts : List ℕ) : Type 0 where
  pub within : All (λ r. r.entry.place + 1 < 2 ^ 64) receipts
  pub counted : (port : ℕ) → count_at counts port ≡ seen_at port receipts
