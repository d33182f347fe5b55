-- The facts that a step adds, as the code keeps them.
use Rattle.std.specs.Prelude.{List, [], ◌∷◌}
use Rattle.abt_facts.specs.declared.fact.Fact.{Fact}
use Rattle.abt_actor.specs.declared.added.Added.{Added}
use Rattle.abt_actor.specs.declared.added.Added.TheVariants.{Nothing, One, Two}

-- the facts, the newest first
abbrev pub facts_in : Added → List Fact
facts_in Nothing = []
facts_in (One fact) = fact ∷ []
facts_in (Two newer older) = newer ∷ older ∷ []
