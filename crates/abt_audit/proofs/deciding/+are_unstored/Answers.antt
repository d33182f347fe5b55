-- The first write and the others weren't stored.
use Rattle.std.proofs.Common.{◌≡◌, List, ◌∷◌, ℕ, refl, sym, subst}
use Rattle.abt_audit.specs.Settling.{IsSettled}
use Rattle.abt_audit.proofs.Settled.{no_places}
use Rattle.abt_audit.proofs.Stopped.{unstored_more}
use Rattle.abt_audit.proofs.deciding.+are_unstored.Goals as goal

pub returns-in_default : goal.returns-in_default
returns-in_default n c = λ yes.
    subst (λ (ps : List ℕ). IsSettled ps c.args.entries.now c.args.entries.now) (sym (no_places c.args.places.now c.in_default.ensures.cases)) refl

pub returns : goal.returns
returns n c = λ yes.
    let entries = c.args.entries.now in
    let list : c.args.places.now ≡ c.in-Some.first.now ∷ c.in-Some.rest.now = c.in-Some.ensures.cases.0 in
    let there = c.in-Some-get.ensures.lookup in
    subst (λ (ps : List ℕ). IsSettled ps entries entries) (sym list)
    (unstored_more c.in-Some.first.now c.in-Some.rest.now entries c.in-Some-get.entry.now there.3.0 there.1 (c.is_unstored.ensures c.if-not-is_unstored.false) (c.are_unstored.ensures yes))
