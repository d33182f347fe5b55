use Rattle.std.proofs.Common.{◌≡◌, ◌<◌, ℕ, inl, inr, sym, subst, ap, ◌∙◌, length, arith}
use Rattle.std.specs.Prelude.{Some, option_map, slice_get}
use Rattle.std.proofs.lemmas.Option.{slice_get-get_or}
use Rattle.abt_net.specs.Topology.{IsWithinRules}
use Rattle.abt_node.specs.Table.{sum_of}
use Rattle.abt_model.specs.Reserved.{reserved_on}
use Rattle.abt_model.specs.Run.{facts_after}
use Rattle.abt_model.specs.PortTable.{port_table}
use Rattle.abt_model.proofs.Sums.{facts_after_lawful}
use Rattle.abt_model.proofs.Tables.{totals_reserved}
use Rattle.abt_model.proofs.Worlds.{cases_option}
use Rattle.abt_world.specs.Readings.{total_in}
use Rattle.abt_world.specs.Standing.{WorldView, StandsFor}
use Rattle.abt_world.proofs.Serving.{port_has}
use Rattle.abt_world.proofs.Standings.{some_same}
use Rattle.abt_world.proofs.world.World.total.Goals as goal

pub returns : goal.returns
returns c net events stands =
    let past = facts_after net events in
    let net_is = ap (λ (w : WorldView). w.net) c.self.view_is ∙ stands.stands.net_is in
    let rules : IsWithinRules net = subst IsWithinRules net_is c.capacities.ensures.rules in
    let ports = c.self.inside.ports.items in
    let place = c.from-place.result in
    let are = (subst (StandsFor net events) (sym c.self.view_is) stands).stands.ports in
    let count = c.len.ensures in
    let within = c.if-place-len.false in
    let low : place < length ports = omega arith in
    let there : slice_get ports place ≡ Some c.index.result.now = slice_get-get_or ports place c.index.result.now low ∙ ap Some (sym c.index.ensures) in
    let table : c.index.result.now ≡ port_table net past place = some_same _ _ (sym there ∙ port_has net past ports place are low) in
    let sum : c.total.result ≡ reserved_on net past place =
    c.total.ensures.value ∙ ap sum_of table ∙ totals_reserved net past rules (facts_after_lawful net events stands.rates).0 place in
    subst (λ (p : ℕ). Some c.total.result ≡ total_in net past p) c.from-place.ensures (elim (cases_option (slice_get net.capacities place)) [
      | inl none ↦ absurd (let e = sym there ∙ are place ∙ ap (option_map (λ (_ : ℕ). port_table net past place)) none in cc)
      | inr some ↦ ap Some sum ∙ sym (ap (option_map (λ (_ : ℕ). reserved_on net past place)) some.1)
    ])
