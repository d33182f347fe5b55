-- The entry is added where its step stands.
use Rattle.std.proofs.Common.{◌≡◌, ◌∙◌, sym, ap}
use Rattle.std.specs.Prelude.{Some, slice_get, option_and_then}
use Rattle.abt_derive.specs.Completes.{place_in, IsAdded}
use Rattle.abt_derive.proofs.Growing.{grows_added, has_one, both_ok}
use Rattle.abt_derive.proofs.completing.Completed.add.Goals as goal

pub returns-in-Some-spot_of-clause-grows : goal.returns-in-Some-spot_of-clause-grows
returns-in-Some-spot_of-clause-grows c =
    let first = c.args.first.now in
    let there : slice_get first c.in-Some.place ≡ Some c.in-Some-spot_of.spot = sym c.spot_of.ensures ∙ c.in-Some-spot_of.is in
    let told : place_in c.args.one.entry ≡ Some c.in-Some.place = sym c.place_in.ensures ∙ c.in-Some.is in
    let so : IsAdded first c.args.one.entry c.in-Some-spot_of.spot = ap (option_and_then (slice_get first)) told ∙ there in
    both_ok c.push.result _ _ _ c.push.ensures.entries c.push.ensures.spots (λ longer further.
    grows_added first c.args.self.now c.push.new.self c.args.one.entry c.in-Some-spot_of.spot so longer further)

pub returns-in-Some-spot_of-clause-more : goal.returns-in-Some-spot_of-clause-more
returns-in-Some-spot_of-clause-more c =
    let first = c.args.first.now in
    let there : slice_get first c.in-Some.place ≡ Some c.in-Some-spot_of.spot = sym c.spot_of.ensures ∙ c.in-Some-spot_of.is in
    let told : place_in c.args.one.entry ≡ Some c.in-Some.place = sym c.place_in.ensures ∙ c.in-Some.is in
    let so : IsAdded first c.args.one.entry c.in-Some-spot_of.spot = ap (option_and_then (slice_get first)) told ∙ there in
    both_ok c.push.result _ _ _ c.push.ensures.entries c.push.ensures.spots (λ longer further.
    has_one first c.args.one c.in-Some-spot_of.spot c.args.self.now c.push.new.self so longer further)
