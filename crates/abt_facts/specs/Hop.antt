-- The state of a hop of a connection's path, and the rate that it holds, by the connection's facts, the newest first (docs/RULES.md,
-- "Node").
use Rattle.std.specs.Prelude.{ℕ, ◌==◌, ◌&&◌, not, Bool, List, [], ◌∷◌, if◌then◌else◌, max}
use Rattle.abt_facts.specs.declared.fact.Fact.{Fact}
use Rattle.abt_facts.specs.declared.fact.Fact.TheVariants.{Passed, Shut}
use Rattle.abt_facts.specs.Requests.{floor_of, ask_of}
use Rattle.abt_facts.specs.Sent.{was_shut}

-- the newest number that hop j has passed or shut, 0 if there is none
abbrev pub newest_of : List Fact → ℕ → ℕ
newest_of [] j = 0
newest_of (Passed seq hop ∷ facts) j = if hop == j then max seq (newest_of facts j) else newest_of facts j
newest_of (Shut seq hop ∷ facts) j = if hop == j then max seq (newest_of facts j) else newest_of facts j
newest_of (fact ∷ facts) j = newest_of facts j

-- what hop j holds for number s while that is its newest: nothing for none, the floor once it is shut, and else what was asked
abbrev pub reserved_for : List Fact → ℕ → ℕ → ℕ
reserved_for facts j s = if s == 0 then 0 else (if was_shut facts s j then floor_of facts s else ask_of facts s)

-- the rate that hop j holds for the connection
abbrev pub held_of : List Fact → ℕ → ℕ
held_of facts j = reserved_for facts j (newest_of facts j)

-- whether the newest number of hop j is open
abbrev pub is_open_at : List Fact → ℕ → Bool
is_open_at facts j = not (newest_of facts j == 0) && not (was_shut facts (newest_of facts j) j)
