-- What is added to the facts of a connection can be noted.
use Rattle.std.proofs.Common.{◌≡◌, ◌≤◌, List, [], ◌∷◌, ◌++◌, refl, sym, subst, ap, ◌∙◌, arith}
use Rattle.abt_facts.specs.declared.fact.Fact.{Fact}
use Rattle.abt_facts.specs.declared.fact.Fact.TheVariants.{Passed, Shut, Back, Emitted}
use Rattle.abt_index.specs.Index.{Index, index_of, noted, CanFollow}
use Rattle.abt_index.proofs.Indexed.{cells_counted}
use Rattle.abt_model.proofs.Lawful.{Route, MayFollow, IsLawful}
use Rattle.abt_world.specs.Notes.{all_noted, CanAllFollow}

-- the index of more facts
pub noted_on : (added facts : List Fact) → all_noted added (index_of facts) ≡ index_of (added ++ facts)
noted_on [] facts = refl
noted_on (fact ∷ added) facts = ap (noted fact) (noted_on added facts)

can_follow : (l : Route) (facts : List Fact) (fact : Fact) → l.hops ≤ 16 → MayFollow l facts fact → CanFollow (index_of facts) fact
can_follow l facts (Passed s j) few may = omega (arith, may.2)
can_follow l facts (Shut s j) few may = omega (arith, may.1)
can_follow l facts (Back s j) few may = omega (arith, may.2)
can_follow l facts (Emitted n t r) few may = may.0 ∙ sym (cells_counted facts)
can_follow l facts other few may = tt

pub can_all_follow : (l : Route) (added facts : List Fact) → l.hops ≤ 16 → IsLawful l (added ++ facts) → CanAllFollow added (index_of facts)
can_all_follow l [] facts few lawful = tt
can_all_follow l (fact ∷ added) facts few lawful =
    (subst (λ (i : Index). CanFollow i fact) (sym (noted_on added facts)) (can_follow l (added ++ facts) fact few lawful.0), can_all_follow l added facts few lawful.1)
