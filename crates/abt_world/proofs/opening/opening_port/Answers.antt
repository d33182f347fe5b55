use Rattle.std.proofs.Common.{◌≡◌, ℕ, List, [], slice_index, ap, ◌∙◌}
use Rattle.std.proofs.lemmas.Result.{IfOk-weaker}
use Rattle.abt_net.specs.declared.conn.Conn.{Conn}
use Rattle.abt_model.specs.PortTable.{port_table}
use Rattle.abt_world.specs.Opening.{opening_table}
use Rattle.abt_world.proofs.Openings.{opening_table-is}
use Rattle.abt_world.proofs.opening.opening_port.Goals as goal

pub returns : goal.returns
returns c =
    let net = c.args.net.now in
    let same : opening_table c.args.id c.capacity_of.result c.conns.result.now ≡ port_table net [] c.args.id =
    ap (λ (u : ℕ). opening_table c.args.id u c.conns.result.now) c.capacity_of.ensures.value
    ∙ ap (λ (conns : List Conn). opening_table c.args.id (slice_index net.capacities c.args.id) conns) c.conns.ensures.value
    ∙ opening_table-is net c.args.id in
    IfOk-weaker c.port_with.result _ _ (λ port is. is ∙ same) c.port_with.ensures
