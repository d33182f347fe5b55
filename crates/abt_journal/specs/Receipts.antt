-- Receipts of a caller (docs/RULES.md, "Journals").
use Rattle.std.specs.Prelude.{ℕ, ◌+◌, List, map, Option, None, Some, ◌==◌}
use Rattle.std.specs.List.{filter, last_or}
use Rattle.abt_journal.specs.declared.entry.Entry.{Entry}
use Rattle.abt_journal.specs.declared.entry.Receipt.{Receipt}

-- a caller with its receipts, in its order
pub record Seated : Type 0 where
  pub caller : ℕ
  pub receipts : List Receipt

-- the entries of one port for which there are receipts, in their order
abbrev pub entries_at : ℕ → List Receipt → List Entry
entries_at port receipts = map (λ r. r.entry) (filter (λ r. r.port == port) receipts)

-- how many entries there are up to this one
abbrev pub up_to : Option Entry → ℕ
up_to None = 0
up_to (Some e) = e.place + 1

-- how many entries of a port's journal were seen: those up to the last one with a receipt
abbrev pub seen_at : ℕ → List Receipt → ℕ
seen_at port receipts = up_to (last_or None (entries_at port receipts))
