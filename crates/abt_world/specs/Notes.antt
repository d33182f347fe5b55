-- Several facts that are noted, the newest first.
use Rattle.std.specs.Prelude.{List, [], ◌∷◌}
use Rattle.abt_facts.specs.declared.fact.Fact.{Fact}
use Rattle.abt_index.specs.Index.{Index, noted, CanFollow}

-- the index after all of them
abbrev pub all_noted : List Fact → Index → Index
all_noted [] index = index
all_noted (fact ∷ facts) index = noted fact (all_noted facts index)

-- Each can follow those before it.
abbrev pub CanAllFollow : List Fact → Index → Type 0
CanAllFollow [] index = Unit {0}
CanAllFollow (fact ∷ facts) index = CanFollow (all_noted facts index) fact × CanAllFollow facts index
