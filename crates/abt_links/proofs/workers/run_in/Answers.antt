use Rattle.std.proofs.Common.{rules, ◌≡◌, length, map, option_map, ap, ◌∙◌, ◌+◌, arith}
use Rattle.std.proofs.lemmas.List.{length-map}
use Rattle.abt_links.proofs.Fitting.{fits_length}
use Rattle.abt_links.proofs.Promised.{worked_or, own_or, promised_of, some_of}
use Rattle.abt_links.proofs.workers.run_in.Goals as goal

pub start_links-handles-requires-clause-callers : goal.start_links-handles-requires-clause-callers
start_links-handles-requires-clause-callers g c κs within =
    let same : length c.args.task.scripts.now ≡ length c.args.task.net.now.conns = fits_length c.args.task.net.now.conns c.args.task.scripts.now c.requires.scripts in
    let ends = c.in_ok-link_ends.ensures in
    let few = c.requires.callers in
    let most = c.requires.workers in
    let number = c.from-workers.ensures in
    omega (arith, same, ends, few, most, number)

pub start_sources-handles-requires-clause-begun : goal.start_sources-handles-requires-clause-begun
start_sources-handles-requires-clause-begun g c κs within = rw c.in_ok-source_ends.ensures c.requires.begun

pub start_sources-handles-requires-clause-ends : goal.start_sources-handles-requires-clause-ends
start_sources-handles-requires-clause-ends g c κs within =
    let same : length c.args.task.scripts.now ≡ length c.args.task.net.now.conns = fits_length c.args.task.net.now.conns c.args.task.scripts.now c.requires.scripts in
    let all = ap length c.in_ok-source_ends.ensures in
    let long = length-map c.in_ok-source_ends.source_ends.items (λ e. e.1) in
    let sites = c.requires.sites in
    omega arith

pub start_sources-handles-requires-clause-room : goal.start_sources-handles-requires-clause-room
start_sources-handles-requires-clause-room g c κs within =
    let same : length c.args.task.scripts.now ≡ length c.args.task.net.now.conns = fits_length c.args.task.net.now.conns c.args.task.scripts.now c.requires.scripts in
    let all = ap length c.in_ok-source_ends.ensures in
    let long = length-map c.in_ok-source_ends.source_ends.items (λ e. e.1) in
    let sites = c.requires.sites in
    let room = c.in_ok-handles.ensures.sources.1 in
    rw c.start_links-handles.ensures.sources (omega arith)

pub returns-clause-worked : goal.returns-clause-worked
returns-clause-worked g c =
    let handles = c.start_sources-handles.result in
    let with_operator = c.start_operator-with_operator.result in
    let joined = c.stop_and_join.result in
    let same : c.start_sources-handles.result.links.items ≡ c.start_links-handles.result.links.items = ap (λ v. v.items) c.start_sources-handles.ensures.links in
    let links : with_operator.handles.links.items ≡ handles.links.items = ap (λ v. v.items) c.start_operator-with_operator.ensures.handles.0 in
    let sources : with_operator.handles.sources.items ≡ handles.sources.items = ap (λ v. v.items) c.start_operator-with_operator.ensures.handles.1 in
    worked_or c.args.task.net.now c.args.task.scripts.now c.args.task.operations.now c.args.plan.workers (map (λ h. h.promise) with_operator.handles.sources.items) (map (λ h. h.promise) with_operator.handles.links.items)
    (option_map (λ h. h.promise) with_operator.operator) joined.operator joined.sources.items joined.links.items c.worked_of.result
    (rw sources c.start_sources-handles.ensures.each) (rw (links, same) c.start_links-handles.ensures.each)
    (promised_of (λ h. h.promise) with_operator.operator _ (length c.args.task.net.now.conns + c.args.plan.workers) c.args.task.operations.now (ap (λ conns. length conns + c.args.plan.workers) c.conns.ensures.value) c.start_operator-with_operator.ensures.operator)
    (λ all.
    let complete = c.start_operator-with_operator.ensures.all (some_of (λ h. h.promise) with_operator.operator all) in
    let started = c.start_sources-handles.ensures.all complete in
    let linked = c.start_links-handles.ensures.all started.1 in
    let long = started.0 in
    let many : length handles.sources.items ≡ length c.args.task.scripts.now = search rules in
    let ends = c.in_ok-link_ends.ensures in
    let number = c.from-workers.ensures in
    let few : length c.start_links-handles.result.links.items ≡ c.args.plan.workers = search rules in
    (length-map with_operator.handles.sources.items (λ h. h.promise) ∙ (ap length sources ∙ many), length-map with_operator.handles.links.items (λ h. h.promise) ∙ (ap length links ∙ (ap length same ∙ few))))
    c.stop_and_join.ensures.sources c.stop_and_join.ensures.links c.stop_and_join.ensures.operator c.worked_of.ensures.fault c.worked_of.ensures.accesses c.worked_of.ensures.sites c.worked_of.ensures.links c.worked_of.ensures.operator

pub returns-clause-own : goal.returns-clause-own
returns-clause-own g c =
    let with_operator = c.start_operator-with_operator.result in
    let joined = c.stop_and_join.result in
    own_or (map (λ h. h.promise) with_operator.handles.sources.items) (map (λ h. h.promise) with_operator.handles.links.items) (option_map (λ h. h.promise) with_operator.operator) joined.operator joined.sources.items joined.links.items c.worked_of.result
    c.stop_and_join.ensures.sources c.stop_and_join.ensures.links c.stop_and_join.ensures.operator c.worked_of.ensures.fault c.worked_of.ensures.none
