-- The questions that are asked of the facts of a connection.
use Rattle.std.specs.Prelude.{ℕ, Bool, true, false, List, Option, None, Some, if◌then◌else◌}
use Rattle.abt_gcra.specs.declared.verdict.Verdict.TheVariants.{Conforming}
use Rattle.abt_facts.specs.declared.fact.Fact.{Fact}
use Rattle.abt_facts.specs.declared.fact.Fact.TheVariants.{Arrived}
use Rattle.abt_facts.specs.Requests.{was_asked, floor_of, ask_of}

-- the floor and the asked rate of a number, if it was asked
abbrev pub asked_in : List Fact → ℕ → Option (ℕ × ℕ)
asked_in facts seq = if was_asked facts seq then Some (floor_of facts seq, ask_of facts seq) else None

-- whether a fact isn't the arrival of a cell that was found not conforming
abbrev pub conforms_if_arrived : Fact → Bool
conforms_if_arrived (Arrived cell at rate Conforming) = true
conforms_if_arrived (Arrived cell at rate verdict) = false
conforms_if_arrived fact = true
