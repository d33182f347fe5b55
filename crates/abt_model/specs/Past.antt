-- The past of a net: the facts of all its connections and ports, the newest first.
use Rattle.std.specs.Prelude.{ℕ, ◌==◌, List, [], ◌∷◌, if◌then◌else◌}
use Rattle.abt_facts.specs.declared.fact.Fact.{Fact}
use Rattle.abt_model.specs.declared.net_fact.NetFact.{NetFact}
use Rattle.abt_model.specs.declared.net_fact.NetFact.TheVariants.{OfConn, Capped}

-- the facts of a net, the newest first
abbrev pub Past : Type 0
Past = List NetFact

-- the facts of one connection
abbrev pub facts_of : ℕ → Past → List Fact
facts_of c [] = []
facts_of c (OfConn conn fact ∷ past) = if conn == c then fact ∷ facts_of c past else facts_of c past
facts_of c (Capped port capacity ∷ past) = facts_of c past

-- the past with these facts of one connection on top
abbrev pub with_facts : ℕ → List Fact → Past → Past
with_facts c [] past = past
with_facts c (fact ∷ facts) past = OfConn c fact ∷ with_facts c facts past
