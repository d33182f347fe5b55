use Rattle.std.proofs.Common.{◌≡◌, ◌<◌, ◌≤◌, ℕ, not, inl, inr, List, [], ◌∷◌, ◌++◌, map, refl, sym, subst, ap, ◌∙◌, length, arith, ◌^◌}
use Rattle.std.specs.Prelude.{Option, None, Some, IsSome, is_some, option_map, slice_get, slice_set}
use Rattle.std.proofs.lemmas.Bool.{false≢true}
use Rattle.std.proofs.lemmas.Option.{slice_get_past, slice_get-get_or, slice_get-map}
use Rattle.std.proofs.lemmas.List.{length-map, length-set}
use Rattle.abt_node.specs.Table.{Table}
use Rattle.abt_net.specs.Topology.{Topology, IsWithinRules, conn_at}
use Rattle.abt_net.specs.declared.conn.Conn.{Conn}
use Rattle.abt_actor.specs.Actor.{ActorView}
use Rattle.abt_index.specs.Index.{Index}
use Rattle.abt_model.specs.Outcomes.{conn_of, after_event}
use Rattle.abt_model.specs.Past.{facts_of}
use Rattle.abt_model.specs.Run.{facts_after}
use Rattle.abt_model.proofs.Worlds.{cases_option}
use Rattle.abt_world.specs.ConnectionStates.{ConnectionView}
use Rattle.abt_world.specs.Looked.{looks_at, looks_by, hops_asked}
use Rattle.abt_facts.specs.Source.{rate_of}
use Rattle.abt_world.specs.Seen.{seen}
use Rattle.abt_world.specs.Standing.{WorldView, StandsFor}
use Rattle.abt_world.specs.Steps.{ArePorts}
use Rattle.abt_world.proofs.Standings.{step_unknown, step_taken, port_count, written_over, map_set, set_same, headline_after}
use Rattle.abt_world.proofs.Final.{AreOfPast}
use Rattle.abt_safety.specs.Holding.{is_held_along, ChangesOne}
use Rattle.abt_world.proofs.Judging.{changes_one, asked_are, was_held, hops_few}
use Rattle.abt_world.proofs.Looking.{path_looked}
use Rattle.abt_world.proofs.Sendings.{few_hops}
use Rattle.abt_world.proofs.Serving.{set_here}
use Rattle.abt_world.proofs.Sounding.{past_counts_nothing}
use Rattle.abt_world.proofs.Stepping.{ready}
use Rattle.abt_safety.specs.Tallies.{one_if, over_at}
use Rattle.abt_world.specs.Tallied.{shapes_above, IsTallied}
use Rattle.abt_world.specs.Touches.{visited, Touches}
use Rattle.abt_world.proofs.Tallying.{AreMarks, counted_before, tallied_after}
use Rattle.abt_world.proofs.Touching.{rewrites_length}
use Rattle.abt_world.proofs.world.World.at_connection.Goals as goal

-- it is of a connection
of_one : (o : Option ℕ) → o ≡ None → IsSome o → ⊥
of_one None e some = false≢true some
of_one (Some c) e some = absurd (cc)

pub returns-in_default-clause-outcome : goal.returns-in_default-clause-outcome
returns-in_default-clause-outcome c net events stands =
    let e = c.args.event.now in
    let before : StandsFor net events (record { net = c.self.inside.net.now; ports = c.self.inside.ports.items; connections = map seen c.self.inside.connections.items; looks = c.self.inside.looks }) = subst (StandsFor net events) (sym c.self.view_is) stands in
    let world : WorldView = record { net = c.self.inside.net.now; ports = c.self.inside.ports.items; connections = map seen c.self.inside.connections.items; looks = c.self.inside.looks } in
    let count = ap length c.conns.ensures.value ∙ ap (λ (n : Topology). length n.conns) before.stands.net_is in
    elim (cases_option (conn_of e)) [
      | inl alone ↦ absurd (of_one (conn_of e) alone c.requires)
      | inr own ↦ (let past_end = c.in_default.ensures.none refl own.0 own.1 in step_unknown net events world e own.0 0 before c.asks_rate.ensures own.1 (omega (arith, past_end, count)))
    ]

pub returns-in-Err-clause-same : goal.returns-in-Err-clause-same
returns-in-Err-clause-same c =
    let connections = c.self.inside.connections.items in
    let held = c.self.inside.ports.items in
    let old = c.index_mut-connection.result.now in
    let new = c.take.new.self in
    let low = c.in-Some.ensures.some.1 in
    let count = ap length c.conns.ensures.value in
    let same_place = c.counting.ensures.value in
    let many = c.self.invariant.0 in
    let low2 : c.counting.result < length connections = omega arith in
    let there : slice_get connections c.counting.result ≡ Some old = slice_get-get_or connections c.counting.result old low2 ∙ ap Some (sym c.index_mut-connection.ensures.value) in
    let was : slice_get (map seen connections) c.counting.result ≡ Some (seen old) = slice_get-map seen connections c.counting.result ∙ ap (option_map seen) there in
    let same = c.in-Err.ensures.memory in
    let kept : c.take.new.ports ≡ held = same.2 ∙ c.deref_mut.ensures.value in
    let written = written_over c.self.inside.ports.len c.take.new.ports held c.self.inside.ports.ok.0 (ap length kept) ∙ kept in
    let seen_same : seen new ≡ seen old = ap (λ (a : ActorView). record { actor = a; index = new.log.index }) same.0 ∙ ap (λ (i : Index). record { actor = old.actor; index = i }) same.1 in
    let left : map seen (slice_set connections c.counting.result new) ≡ map seen connections =
    map_set seen connections c.counting.result new ∙ ap (slice_set (map seen connections) c.counting.result) seen_same ∙ set_same (map seen connections) c.counting.result (seen old) was in
    let view : List Table → List ConnectionView → WorldView = λ ps cs. record { net = c.self.inside.net.now; ports = ps; connections = cs; looks = c.self.inside.looks } in
    ap (λ (ps : List Table). view ps (map seen (slice_set connections c.counting.result new))) written ∙ ap (view held) left ∙ c.self.view_is

pub returns-in-Err-clause-outcome : goal.returns-in-Err-clause-outcome
returns-in-Err-clause-outcome c net events stands = subst (StandsFor net events) (sym (returns-in-Err-clause-same c)) stands

pub returns-in-Ok-clause-outcome : goal.returns-in-Ok-clause-outcome
returns-in-Ok-clause-outcome c net events stands =
    let e = c.args.event.now in
    let past = facts_after net events in
    let conn = c.index-conns-place.result in
    let connections = c.self.inside.connections.items in
    let held = c.self.inside.ports.items in
    let ports = c.take.new.ports in
    let old = c.index_mut-connection.result.now in
    let new = c.take.new.self in
    let looks = c.count-self-inside.result in
    let low = c.in-Some.ensures.some.1 in
    let before : StandsFor net events (record { net = c.self.inside.net.now; ports = held; connections = map seen connections; looks = c.self.inside.looks }) = subst (StandsFor net events) (sym c.self.view_is) stands in
    let net_is : c.self.inside.net.now ≡ net = before.stands.net_is in
    let here : StandsFor net events (record { net = net; ports = held; connections = map seen connections; looks = c.self.inside.looks }) =
    subst (λ (n : Topology). StandsFor net events (record { net = n; ports = held; connections = map seen connections; looks = c.self.inside.looks })) net_is before in
    let rules : IsWithinRules net = subst IsWithinRules net_is c.conns.ensures.rules in
    let n = c.in-Some.place in
    let own : conn_of e ≡ Some n = c.in-Some.ensures.some.0 in
    let place : c.counting.result ≡ n = c.counting.ensures.value in
    let conns : c.conns.result.now ≡ net.conns = c.conns.ensures.value ∙ ap (λ (n : Topology). n.conns) net_is in
    let conns2 : c.conns-2.result.now ≡ net.conns = c.conns-2.ensures.value ∙ ap (λ (n : Topology). n.conns) net_is in
    let count = ap length conns in
    let count2 = ap length conns2 in
    let low2 : c.in-Some.place < length c.conns-2.result.now = omega arith in
    let known : conn_at net n ≡ Some conn =
    sym (ap (λ (l : List Conn). slice_get l n) conns2) ∙ slice_get-get_or c.conns-2.result.now c.in-Some.place conn low2 ∙ ap Some (sym c.index-conns-place.is) in
    let many : length connections ≡ length net.conns = c.self.invariant.0 ∙ ap (λ (n : Topology). length n.conns) net_is in
    let low3 : c.counting.result < length connections = omega arith in
    let there : slice_get connections c.counting.result ≡ Some old = slice_get-get_or connections c.counting.result old low3 ∙ ap Some (sym c.index_mut-connection.ensures.value) in
    let r = ready net events n held connections c.self.inside.looks conn old rules here known (sym (ap (slice_get connections) place) ∙ there) in
    let are : ArePorts net past c.deref_mut.result.now = subst (ArePorts net past) (sym c.deref_mut.ensures.value) here.stands.ports in
    let leaves = c.in-Ok.ensures.outcome net past n (facts_of n past) r.log c.asks_rate.ensures own r.at are r.actor in
    let written = written_over c.self.inside.ports.len ports held c.self.inside.ports.ok.0 (port_count net (after_event net past e) ports leaves.tables ∙ sym (port_count net past held here.stands.ports)) in
    let number : length (map seen connections) ≡ length connections = length-map connections seen in
    let low4 : n < length (map seen connections) = omega arith in
    let step = step_taken net events (record { net = c.self.inside.net.now; ports = held; connections = map seen connections; looks = c.self.inside.looks }) e n conn c.in-Ok.outcome (seen new) ports looks before c.asks_rate.ensures own known low4 leaves in
    let set : slice_set (map seen connections) n (seen new) ≡ map seen (slice_set connections c.counting.result new) =
    ap (λ (p : ℕ). slice_set (map seen connections) p (seen new)) (sym place) ∙ sym (map_set seen connections c.counting.result new) in (
      step.0,
      subst (λ (ps : List Table). StandsFor net (events ++ e ∷ []) (record { net = c.self.inside.net.now; ports = ps; connections = map seen (slice_set connections c.counting.result new); looks = looks })) (sym written)
          (subst (λ (cs : List ConnectionView). StandsFor net (events ++ e ∷ []) (record { net = c.self.inside.net.now; ports = ports; connections = cs; looks = looks })) set step.1),
    )

pub returns-in_default-clause-headline : goal.returns-in_default-clause-headline
returns-in_default-clause-headline c net events stands =
    let net_is = ap (λ (w : WorldView). w.net) c.self.view_is ∙ stands.stands.net_is in
    headline_after net events c.args.event.now (subst IsWithinRules net_is c.conns.ensures.rules) stands.rates c.asks_rate.ensures

pub returns-in_default-clause-counted : goal.returns-in_default-clause-counted
returns-in_default-clause-counted c net events stands =
    let e = c.args.event.now in
    let past = facts_after net events in
    let net_is = ap (λ (w : WorldView). w.net) c.self.view_is ∙ stands.stands.net_is in
    let count = ap length c.conns.ensures.value ∙ ap (λ (n : Topology). length n.conns) net_is in
    elim (cases_option (conn_of e)) [
      | inl alone ↦ absurd (of_one (conn_of e) alone c.requires)
      | inr own ↦ (
          let past_end = c.in_default.ensures.none refl own.0 own.1 in
          let unknown : conn_at net own.0 ≡ None = slice_get_past net.conns own.0 (omega (arith, past_end, count)) in
          sym (ap (looks_by net past e) own.1 ∙ ap (looks_at net past e own.0) unknown))
    ]

pub returns-in-Ok-clause-headline : goal.returns-in-Ok-clause-headline
returns-in-Ok-clause-headline c net events stands =
    let net_is = ap (λ (w : WorldView). w.net) c.self.view_is ∙ stands.stands.net_is in
    headline_after net events c.args.event.now (subst IsWithinRules net_is c.conns.ensures.rules) stands.rates c.asks_rate.ensures

pub invariant_of-self-in-Ok : goal.invariant_of-self-in-Ok
invariant_of-self-in-Ok c =
    let net = c.self.inside.net.now in
    let conn = c.index-conns-place.result in
    let connections = c.self.inside.connections.items in
    let held = c.self.inside.ports.items in
    let ports = c.take.new.ports in
    let old = c.index_mut-connection.result.now in
    let new = c.take.new.self in
    let port = visited conn c.args.event.now in
    let rules = c.self.invariant.1 in
    let low = c.in-Some.ensures.some.1 in
    let count = ap length c.conns.ensures.value in
    let count2 = ap length c.conns-2.ensures.value in
    let same_place = c.counting.ensures.value in
    let many = c.self.invariant.0 in
    let low2 : c.in-Some.place < length c.conns-2.result.now = omega arith in
    let known : slice_get net.conns c.counting.result ≡ Some conn =
    ap (slice_get net.conns) same_place ∙ sym (ap (λ (l : List Conn). slice_get l c.in-Some.place) c.conns-2.ensures.value)
    ∙ slice_get-get_or c.conns-2.result.now c.in-Some.place conn low2 ∙ ap Some (sym c.index-conns-place.is) in
    let low3 : c.counting.result < length connections = omega arith in
    let there : slice_get connections c.counting.result ≡ Some old = slice_get-get_or connections c.counting.result old low3 ∙ ap Some (sym c.index_mut-connection.ensures.value) in
    let was : slice_get (map seen connections) c.counting.result ≡ Some (seen old) = slice_get-map seen connections c.counting.result ∙ ap (option_map seen) there in
    let touches : Touches port conn.vc held ports = subst (λ (ps : List Table). Touches port conn.vc ps ports) c.deref_mut.ensures.value c.in-Ok.ensures.touches in
    let written = written_over c.self.inside.ports.len ports held c.self.inside.ports.ok.0 (rewrites_length port held ports touches.0) in
    let some = counted_before net held ports (map seen connections) c.counting.result port conn (seen old) c.self.inside.violations
    c.self.invariant.2 rules.own_channels known was touches in
    let over_is : over_at c.visited-port.result c.deref.result.now ≡ over_at port held =
    ap (λ (o : Option ℕ). over_at o c.deref.result.now) c.visited-port.ensures ∙ ap (over_at port) c.deref.ensures.value in
    let above_is : shapes_above c.deref.result.now (conn, seen old) ≡ shapes_above held (conn, seen old) =
    ap (λ (ps : List Table). shapes_above ps (conn, seen old)) c.deref.ensures.value in
    let before : AreMarks net held conn (seen old) port c.counted_marks-before.result = record {
      above = c.counted_marks-before.ensures.above (subst (λ b. one_if b ≤ c.self.inside.violations.above) (sym above_is) some.0) ∙ above_is;
      over = c.counted_marks-before.ensures.over (subst (λ b. one_if b ≤ c.self.inside.violations.over) (sym over_is) some.1) ∙ over_is;
      broken = c.counted_marks-before.ensures.broken some.2;
    } in
    let changes : ChangesOne c.visited-port.result conn.vc conn.path held c.deref-in-Ok.result.now =
    subst (λ (o : Option ℕ). ChangesOne o conn.vc conn.path held c.deref-in-Ok.result.now) (sym c.visited-port.ensures)
    (subst (ChangesOne port conn.vc conn.path held) (sym (c.deref-in-Ok.ensures.value ∙ written)) (changes_one conn c.args.event.now held ports touches)) in
    let known_before = was_held c.counted_marks-before.result.above (is_held_along old.actor.source.rate conn.vc held conn.path) (not c.counted_marks-before.result.above) before.above refl
    ∙ ap (λ (rate : ℕ). is_held_along rate conn.vc held conn.path) (sym c.rate.ensures) in
    let after : AreMarks net ports conn (seen new) port c.marks_after-after.result = record {
      above = c.marks_after-after.ensures.above held changes known_before ∙ ap (λ (ps : List Table). shapes_above ps (conn, seen new)) (c.deref-in-Ok.ensures.value ∙ written);
      over = c.marks_after-after.ensures.over ∙ ap (λ (o : Option ℕ). over_at o c.deref-in-Ok.result.now) c.visited-port.ensures
          ∙ ap (over_at port) (c.deref-in-Ok.ensures.value ∙ written);
      broken = c.marks_after-after.ensures.broken;
    } in
    let few : length net.conns < 2 ^ 63 = omega (arith, rules.connections) in
    let few_ports : length held < 2 ^ 63 = omega (arith, rules.ports, c.self.invariant.3) in
    let told = tallied_after net held ports (map seen connections) c.counting.result port conn (seen old) (seen new) c.self.inside.violations c.after-self-inside.result c.counted_marks-before.result c.marks_after-after.result
    c.self.invariant.2 rules.own_channels (length-map connections seen ∙ many) few few_ports known was touches before after
    c.after-self-inside.ensures.above c.after-self-inside.ensures.over c.after-self-inside.ensures.broken in (
      length-set connections c.counting.result new ∙ many,
      rules,
      subst (λ (ps : List Table). IsTallied net ps (map seen (slice_set connections c.counting.result new)) c.after-self-inside.result) (sym written)
          (subst (λ (cs : List ConnectionView). IsTallied net ports cs c.after-self-inside.result) (sym (map_set seen connections c.counting.result new)) told),
      ap length written ∙ rewrites_length port held ports touches.0 ∙ c.self.invariant.3,
    )

pub invariant_of-self-in-Err : goal.invariant_of-self-in-Err
invariant_of-self-in-Err c =
    let net = c.self.inside.net.now in
    let connections = c.self.inside.connections.items in
    let held = c.self.inside.ports.items in
    let old = c.index_mut-connection.result.now in
    let new = c.take.new.self in
    let low = c.in-Some.ensures.some.1 in
    let count = ap length c.conns.ensures.value in
    let same_place = c.counting.ensures.value in
    let many = c.self.invariant.0 in
    let low3 : c.counting.result < length connections = omega arith in
    let there : slice_get connections c.counting.result ≡ Some old = slice_get-get_or connections c.counting.result old low3 ∙ ap Some (sym c.index_mut-connection.ensures.value) in
    let was : slice_get (map seen connections) c.counting.result ≡ Some (seen old) = slice_get-map seen connections c.counting.result ∙ ap (option_map seen) there in
    let same = c.in-Err.ensures.memory in
    let kept : c.take.new.ports ≡ held = same.2 ∙ c.deref_mut.ensures.value in
    let written = written_over c.self.inside.ports.len c.take.new.ports held c.self.inside.ports.ok.0 (ap length kept) ∙ kept in
    let seen_same : seen new ≡ seen old = ap (λ (a : ActorView). record { actor = a; index = new.log.index }) same.0 ∙ ap (λ (i : Index). record { actor = old.actor; index = i }) same.1 in
    let left : map seen (slice_set connections c.counting.result new) ≡ map seen connections =
    map_set seen connections c.counting.result new ∙ ap (slice_set (map seen connections) c.counting.result) seen_same ∙ set_same (map seen connections) c.counting.result (seen old) was in (
      length-set connections c.counting.result new ∙ many,
      c.self.invariant.1,
      subst (λ (ps : List Table). IsTallied net ps (map seen (slice_set connections c.counting.result new)) c.self.inside.violations) (sym written)
          (subst (λ (cs : List ConnectionView). IsTallied net held cs c.self.inside.violations) (sym left) c.self.invariant.2),
      ap length written ∙ c.self.invariant.3,
    )

pub returns-in-Ok-clause-counted : goal.returns-in-Ok-clause-counted
returns-in-Ok-clause-counted c net events stands =
    let e = c.args.event.now in
    let past = facts_after net events in
    let conn = c.index-conns-place.result in
    let connections = c.self.inside.connections.items in
    let held = c.self.inside.ports.items in
    let ports = c.deref-in-Ok.result.now in
    let old = c.index_mut-connection.result.now in
    let new = c.take.new.self in
    let low = c.in-Some.ensures.some.1 in
    let before : StandsFor net events (record { net = c.self.inside.net.now; ports = held; connections = map seen connections; looks = c.self.inside.looks }) = subst (StandsFor net events) (sym c.self.view_is) stands in
    let net_is : c.self.inside.net.now ≡ net = before.stands.net_is in
    let here : StandsFor net events (record { net = net; ports = held; connections = map seen connections; looks = c.self.inside.looks }) =
    subst (λ (n : Topology). StandsFor net events (record { net = n; ports = held; connections = map seen connections; looks = c.self.inside.looks })) net_is before in
    let rules : IsWithinRules net = subst IsWithinRules net_is c.conns.ensures.rules in
    let n = c.in-Some.place in
    let own : conn_of e ≡ Some n = c.in-Some.ensures.some.0 in
    let place : c.counting.result ≡ n = c.counting.ensures.value in
    let conns : c.conns.result.now ≡ net.conns = c.conns.ensures.value ∙ ap (λ (n : Topology). n.conns) net_is in
    let conns2 : c.conns-2.result.now ≡ net.conns = c.conns-2.ensures.value ∙ ap (λ (n : Topology). n.conns) net_is in
    let count = ap length conns in
    let count2 = ap length conns2 in
    let low2 : c.in-Some.place < length c.conns-2.result.now = omega arith in
    let known : conn_at net n ≡ Some conn =
    sym (ap (λ (l : List Conn). slice_get l n) conns2) ∙ slice_get-get_or c.conns-2.result.now c.in-Some.place conn low2 ∙ ap Some (sym c.index-conns-place.is) in
    let many : length connections ≡ length net.conns = c.self.invariant.0 ∙ ap (λ (n : Topology). length n.conns) net_is in
    let low3 : c.counting.result < length connections = omega arith in
    let low4 : n < length connections = omega arith in
    let there : slice_get connections c.counting.result ≡ Some old = slice_get-get_or connections c.counting.result old low3 ∙ ap Some (sym c.index_mut-connection.ensures.value) in
    let r = ready net events n held connections c.self.inside.looks conn old rules here known (sym (ap (slice_get connections) place) ∙ there) in
    let are : ArePorts net past c.deref_mut.result.now = subst (ArePorts net past) (sym c.deref_mut.ensures.value) here.stands.ports in
    let kept : IsTallied net held (map seen connections) c.self.inside.violations = subst (λ (n : Topology). IsTallied n held (map seen connections) c.self.inside.violations) net_is c.self.invariant.2 in
    let none = past_counts_nothing net events connections held c.self.inside.violations (record { rules = rules; looks = c.self.inside.looks; stands = here }) kept in
    let after = (returns-in-Ok-clause-outcome c net events stands).1 in
    let left : AreOfPast net (events ++ e ∷ []) (slice_set connections c.counting.result new) ports = record {
      rules = rules;
      looks = c.count-self-inside.result;
      stands = record {
        rates = after.rates;
        stands = record {
          net_is = refl;
          ports = subst (ArePorts net (facts_after net (events ++ e ∷ []))) (sym c.deref-in-Ok.ensures.value) after.stands.ports;
          connections = after.stands.connections;
        };
      };
    } in
    let set : slice_get (slice_set connections c.counting.result new) n ≡ Some new = ap (λ (p : ℕ). slice_get (slice_set connections p new) n) place ∙ set_here connections n new low4 in
    let looked = path_looked net (events ++ e ∷ []) (slice_set connections c.counting.result new) ports n conn new left known set in
    let few : length conn.path ≤ 16 = few_hops net past n conn (facts_of n past) r.at in
    let first = c.counting.ensures.count in
    let start = c.new-looks.ensures in
    let second = c.counted_marks-before.ensures.counted none.above none.over none.broken in
    let third = c.in-Ok.ensures.counted net past n (facts_of n past) r.log c.asks_rate.ensures own r.at are r.actor (omega (arith, first, start, second)) in
    let bound = c.in-Ok.ensures.looks in
    let leaves = c.in-Ok.ensures.outcome net past n (facts_of n past) r.log c.asks_rate.ensures own r.at are r.actor in
    let safe = c.counted_marks-before.ensures.safe none.above none.over none.broken in
    let was = rate_of (facts_of n past) in
    let is = rate_of (facts_of n (after_event net past e)) in
    let rated = c.rate.ensures ∙ ap (λ (a : ActorView). a.source.rate) r.actor in
    let asked = asked_are (record { rate = c.rate.result; is_held = not c.counted_marks-before.result.above }) was is new.actor.source.rate conn.vc ports conn.path c.visited-port.result
    (ap not safe) rated (ap (λ (a : ActorView). a.source.rate) leaves.actor_is) looked in
    let at_most = hops_few (length conn.path) was is c.visited-port.result few in
    let there_asked = ap (hops_asked (length conn.path) was is) c.visited-port.ensures in
    let fourth = c.marks_after-after.ensures.counted (omega (arith, first, start, second, bound, asked, at_most)) in
    let visits = ap (λ (o : Option ℕ). one_if (is_some o)) c.visited-port.ensures in
    let read = c.count-self-inside.ensures in
    omega (arith, first, start, second, third, fourth, asked, there_asked, visits, read) ∙ sym (ap (looks_by net past e) own ∙ ap (looks_at net past e n) known)
