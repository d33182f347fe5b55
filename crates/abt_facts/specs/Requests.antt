-- The request of a number. Facts are those of one connection, the newest first.
use Rattle.std.specs.Prelude.{ℕ, ◌==◌, Bool, false, List, [], ◌∷◌, if◌then◌else◌}
use Rattle.std.specs.List.{list_any}
use Rattle.abt_facts.specs.declared.fact.Fact.{Fact}
use Rattle.abt_facts.specs.declared.fact.Fact.TheVariants.{Asked}

abbrev pub is_ask_of : ℕ → Fact → Bool
is_ask_of s (Asked seq floor ask mark) = seq == s
is_ask_of s other = false

-- whether a request of this number was sent
abbrev pub was_asked : List Fact → ℕ → Bool
was_asked facts s = list_any (is_ask_of s) facts

-- the floor, the asked rate or the mark asked under a number; 0 if it was not asked
abbrev pub asked_under : ((floor ask mark : ℕ) → ℕ) → List Fact → ℕ → ℕ
asked_under part [] s = 0
asked_under part (Asked seq floor ask mark ∷ facts) s = if seq == s then part floor ask mark else asked_under part facts s
asked_under part (fact ∷ facts) s = asked_under part facts s

-- The floor and the asked rate of a number, and how many cells were emitted before the ask.
abbrev pub floor_of : List Fact → ℕ → ℕ
floor_of facts s = asked_under (λ floor ask mark. floor) facts s

abbrev pub ask_of : List Fact → ℕ → ℕ
ask_of facts s = asked_under (λ floor ask mark. ask) facts s

abbrev pub mark_of : List Fact → ℕ → ℕ
mark_of facts s = asked_under (λ floor ask mark. mark) facts s
