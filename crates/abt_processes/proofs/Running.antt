-- Runs of live processes.
use Rattle.std.proofs.Common.{◌≡◌, ◌≢◌, inl, inr, ℕ, ◌+◌, ◌≤◌, ◌-◌, List, [], ◌∷◌, length, refl, ap, sym, subst, ◌∙◌, Some, arith}
use Rattle.std.specs.Prelude.{slice_index, All}
use Rattle.std.proofs.lemmas.List.Elements.{All-nil}
use Rattle.abt_net.specs.declared.conn.Conn.{Conn}
use Rattle.abt_net.specs.Topology.{Topology, IsWithinRules, conn_at}
use Rattle.abt_facts.specs.Source.{Down, rate_of}
use Rattle.abt_facts.specs.Hop.{held_of}
use Rattle.abt_node.specs.Table.{Connection, Table, connection_at, held_at, sum_of}
use Rattle.abt_source.specs.SourceView.{SourceView}
use Rattle.abt_model.specs.declared.event.Event.{Event}
use Rattle.abt_model.specs.Events.{AsksRate}
use Rattle.abt_model.specs.Past.{facts_of}
use Rattle.abt_model.specs.PortTable.{kept_at}
use Rattle.abt_model.specs.Reserved.{capacity_of, reserved_on}
use Rattle.abt_model.proofs.Decisions.{held_by-held}
use Rattle.abt_model.proofs.Lawful.{route_of}
use Rattle.abt_model.proofs.Served.{conn_within}
use Rattle.abt_model.proofs.Tables.{tables_have_rows, totals_reserved}
use Rattle.abt_model.proofs.Worlds.{lawful_at}
use Rattle.abt_net.specs.Paths.{hop_of}
use Rattle.abt_net.proofs.PathLemmas.{hop_at}
use Rattle.abt_actor.specs.Actor.{ActorView}
use Rattle.abt_weave.specs.Projections.{past_of}
use Rattle.abt_weave.proofs.Replays.{past_lawful}
use Rattle.abt_world.specs.Headline.{HeadlineHolds}
use Rattle.abt_processes.specs.Lists.{IsIn}
use Rattle.abt_processes.specs.Processes.{Alive, Processes, opening_of}
use Rattle.abt_processes.specs.Moves.{Moves, MessageMoves, RequestMoves, CellMoves, CapacityMoves, DeedMoves, DeathMoves, CutMoves, StartMoves}
use Rattle.abt_processes.specs.Runs.{AreMoves, IsRun}
use Rattle.abt_processes.specs.Events.{AreEventsOf}
use Rattle.abt_processes.specs.Safe.{AreSafe}
use Rattle.abt_processes.proofs.Beginning.{start_moves}
use Rattle.abt_processes.proofs.Coming.{capacity_moves, cell_moves, headline_of, message_moves, request_moves}
use Rattle.abt_processes.proofs.Doing.{process_at, source_moves}
use Rattle.abt_processes.proofs.Dying.{cut_moves, death_moves}
use Rattle.abt_processes.proofs.Invariant.{Stands}

-- before anything happened
opens : (net : Topology) → Stands net [] (opening_of net)
opens net = record {
  events = record {
    rates = All-nil AsksRate;
    ports = λ p. record { table = refl; steps = refl };
    sources = λ c. record { deeds = refl; process = λ conn known. (record { cells = refl; clock = refl; is_up = refl }, refl) };
  };
  lines = λ c conn known. record { requests = λ left none. absurd none; cells = λ left none. absurd none; count = refl; first = omega arith; last = refl };
  sent = λ n none. absurd none;
  judged = λ port entry none. absurd none;
}

moves_stand : (net : Topology) → IsWithinRules net → (earlier : List Event) (old new : Processes) → Stands net earlier old → Moves net old new → (later : List Event) × Stands net later new
moves_stand net rules earlier old new is (MessageMoves move) = message_moves net rules earlier old new is move
moves_stand net rules earlier old new is (RequestMoves move) = request_moves net rules earlier old new is move
moves_stand net rules earlier old new is (CellMoves move) = cell_moves net rules earlier old new is move
moves_stand net rules earlier old new is (CapacityMoves move) = capacity_moves net rules earlier old new is move
moves_stand net rules earlier old new is (DeedMoves move) = source_moves net rules earlier old new is move
moves_stand net rules earlier old new is (DeathMoves move) = death_moves net rules earlier old new is move
moves_stand net rules earlier old new is (CutMoves move) = cut_moves net rules earlier old new is move
moves_stand net rules earlier old new is (StartMoves move) = start_moves net rules earlier old new is move

run_stands : (net : Topology) → IsWithinRules net → (earlier : List Event) (old : Processes) (states : List Processes) (processes : Processes) → Stands net earlier old → AreMoves net old states → IsIn processes states → (later : List Event) × Stands net later processes
run_stands net rules earlier old [] processes is run none = absurd none
run_stands net rules earlier old (new ∷ states) processes is run (inl same) =
    let next = moves_stand net rules earlier old new is run.0 in
    (next.0, subst (Stands net next.0) (sym same) next.1)
run_stands net rules earlier old (new ∷ states) processes is run (inr rest) =
    let next = moves_stand net rules earlier old new is run.0 in
    run_stands net rules next.0 new states processes next.1 run.1 rest

pub runs_are_events : (net : Topology) (states : List Processes) (processes : Processes) → IsWithinRules net → IsRun net states → IsIn processes states → (earlier : List Event) × AreEventsOf net earlier processes × HeadlineHolds net (past_of net earlier)
runs_are_events net states processes rules run there =
    let found = run_stands net rules [] (opening_of net) states processes (opens net) run there in
    (found.0, found.1.events, headline_of net rules found.0 found.1.events.rates)

-- the connection that a port keeps at a hop holds what the facts say
held_there : (net : Topology) → IsWithinRules net → (earlier : List Event) → All AsksRate earlier → (processes : Processes) → AreEventsOf net earlier processes → (c hop : ℕ) (conn : Conn) → conn_at net c ≡ Some conn → 1 ≤ hop → hop ≤ length conn.path →
    (kept : Connection) × (connection_at (processes.ports (slice_index conn.path (hop - 1))).table conn.vc ≡ Some kept) × (held_of (facts_of c (past_of net earlier)) hop ≡ held_at kept)
held_there net rules earlier rates processes is c hop conn known low high =
    let past = past_of net earlier in
    let facts = facts_of c past in
    let p = slice_index conn.path (hop - 1) in
    let at = hop_at conn.path (hop - 1) (conn_within net rules c conn known).visits_once (omega (arith, low, high)) in
    let here : hop_of conn.path p ≡ hop = at ∙ (let back : (hop - 1) + 1 ≡ hop = omega (arith, low) in back) in
    let row = tables_have_rows net past rules c p conn known (λ zero. omega (arith, here, zero, low)) in (
      kept_at conn facts hop,
      ap (λ (t : Table). connection_at t conn.vc) (is.ports p).table ∙ row ∙ ap (λ (n : ℕ). Some (kept_at conn facts n)) here,
      sym (held_by-held (route_of conn) facts (lawful_at net past (past_lawful net earlier rates) c conn known) hop),
    )

-- a source that is alive and up has the rate of its facts
alive_rate : (net : Topology) (earlier : List Event) (processes : Processes) → Stands net earlier processes → (c : ℕ) (conn : Conn) (actor : ActorView) → conn_at net c ≡ Some conn → (processes.sources c).process ≡ Alive actor → actor.state ≢ Down →
    actor.source.rate ≡ rate_of (facts_of c (past_of net earlier))
alive_rate net earlier processes is c conn actor known alive up =
    let had = process_at net earlier processes c conn (Alive actor) is known alive in
    ap (λ (s : SourceView). s.rate) (had.1.source (λ e. up (had.1.state ∙ e)))

pub processes_are_safe : (net : Topology) (states : List Processes) (processes : Processes) → IsWithinRules net → IsRun net states → IsIn processes states → AreSafe net processes
processes_are_safe net states processes rules run there =
    let found = run_stands net rules [] (opening_of net) states processes (opens net) run there in
    let earlier = found.0 in
    let is = found.1 in
    let past = past_of net earlier in
    let safe = (headline_of net rules earlier is.events.rates).safe in
    record {
      rates = λ c conn actor known alive up hop low high. (
          let held = held_there net rules earlier is.events.rates processes is.events c hop conn known low high in
          let rate = alive_rate net earlier processes is c conn actor known alive up in
          let same = held.2 in
          let fits = safe.rates c conn known hop low high in
          (held.0, held.1, (let l : actor.source.rate ≤ held_at held.0 = omega (arith, rate, same, fits) in l))
          );
      sums = λ port low. (
          let total : sum_of (processes.ports port).table ≡ reserved_on net past port = ap sum_of (is.events.ports port).table ∙ totals_reserved net past rules (past_lawful net earlier is.events.rates) port in
          let link : (processes.ports port).table.capacity ≡ capacity_of net past port = ap (λ (t : Table). t.capacity) (is.events.ports port).table in
          let fits = safe.sums port low in
          omega (arith, total, link, fits)
          );
      cells = is.judged;
    }
