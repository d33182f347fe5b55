-- The first place and the others are above.
use Rattle.std.proofs.Common.{◌≡◌, ◌∷◌, sym, subst, arith}
use Rattle.abt_audit.specs.Deciding.{AreAbove}
use Rattle.abt_audit.proofs.Settled.{no_places}
use Rattle.abt_audit.proofs.deciding.+are_above.Goals as goal

pub returns-in_default : goal.returns-in_default
returns-in_default n c = λ yes. subst (AreAbove c.args.count) (sym (no_places c.args.places.now c.in_default.ensures.cases)) tt

pub returns : goal.returns
returns n c = λ yes.
    let list : c.args.places.now ≡ c.in-Some.first.now ∷ c.in-Some.rest.now = c.in-Some.ensures.cases.0 in
    subst (AreAbove c.args.count) (sym list) (omega (arith, c.if-place-count.false), c.are_above.ensures yes)
