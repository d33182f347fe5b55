-- The port at which a connection's message is: the hop that its path gives it.
use Rattle.std.proofs.Common.{◌≡◌, ◌≢◌, ℕ, ◌+◌, ◌-◌, ◌<◌, ◌≤◌, true, ap, sym, ◌∙◌, length, get_or, Option, Some, arith}
use Rattle.std.specs.Prelude.{option_map, slice_index}
use Rattle.std.proofs.lemmas.Bool.{and_from, le-leb}
use Rattle.std.proofs.lemmas.Option.{slice_get-get_or}
use Rattle.abt_cell.specs.Channel.{Channel}
use Rattle.abt_net.specs.declared.conn.Conn.{Conn}
use Rattle.abt_net.specs.Paths.{hop_of}
use Rattle.abt_net.specs.Topology.{Topology, IsWithinRules, conn_at, channel_at}
use Rattle.abt_net.proofs.PathLemmas.{hop_of-port, hop_at}
use Rattle.abt_model.proofs.Steps.{is_hop_tells}
use Rattle.abt_model.proofs.Served.{conn_within}
use Rattle.abt_model.specs.Answers.{is_hop}
use Rattle.abt_journal.specs.declared.input.PortInput.{PortInput}
use Rattle.abt_weave.specs.Candidates.{channel_of}
use Rattle.abt_weave.specs.Stops.{IsStop}
use Rattle.abt_weave.proofs.PortEvents.{some_same}

-- a connection that is read at its place
read_conn : (net : Topology) (c : ℕ) (conn : Conn) → c < length net.conns → conn ≡ get_or net.conns c conn → conn_at net c ≡ Some conn
read_conn net c conn low is = slice_get-get_or net.conns c conn low ∙ ap Some (sym is)

pub stop_found : (net : Topology) (vc : Channel) (input : PortInput) (p c hop : ℕ) (conn : Conn) → Some vc ≡ channel_of input → c < length net.conns → conn ≡ get_or net.conns c conn →
    channel_at net.conns c ≡ Some vc → hop ≡ hop_of conn.path p → hop ≤ length conn.path → hop ≢ 0 → IsStop net input p c hop
stop_found net vc input p c hop conn about low is has at high some =
    let known = read_conn net c conn low is in record {
      conn = conn;
      known = known;
      channel = sym about ∙ sym (sym (ap (option_map (λ (x : Conn). x.vc)) known) ∙ has);
      within = and_from _ _ (le-leb 1 hop (omega (arith, some))) (le-leb hop (length conn.path) high);
      port = ap (λ h. slice_index conn.path (h - 1)) at ∙ hop_of-port conn.path p (λ z. some (at ∙ z));
    }

-- a port at a hop of a net's path has that hop
pub at_own_hop : (net : Topology) → IsWithinRules net → (c hop p : ℕ) (conn : Conn) → conn_at net c ≡ Some conn → is_hop (length conn.path) hop ≡ true →
    p ≡ slice_index conn.path (hop - 1) → hop_of conn.path p ≡ hop
at_own_hop net rules c hop p conn known is port =
    let bounds = is_hop_tells (length conn.path) hop is in
    let within = conn_within net rules c conn known in
    let low = bounds.0 in
    let high = bounds.1 in
    let back : (hop - 1) + 1 ≡ hop = omega arith in
    ap (hop_of conn.path) port ∙ hop_at conn.path (hop - 1) within.visits_once (omega arith) ∙ back

-- there is no other
pub stop_only : (net : Topology) (vc : Channel) (input : PortInput) (p c hop d : ℕ) (conn : Conn) → Some vc ≡ channel_of input → IsWithinRules net → d < length net.conns → conn ≡ get_or net.conns d conn →
    ((k : ℕ) → channel_at net.conns k ≡ Some vc → ◌≡◌ {A = Option ℕ} (Some d) (Some k)) → IsStop net input p c hop → (d ≡ c) × (hop_of conn.path p ≡ hop) × (1 ≤ hop)
stop_only net vc input p c hop d conn about rules low is only stop =
    let same : d ≡ c = some_same (only c (ap (option_map (λ (x : Conn). x.vc)) stop.known ∙ sym stop.channel ∙ sym about)) in
    let one : stop.conn ≡ conn = some_same (sym stop.known ∙ ap (conn_at net) (sym same) ∙ read_conn net d conn low is) in
    let at = at_own_hop net rules c hop p stop.conn stop.known stop.within (sym stop.port) in
    (same, ap (λ (x : Conn). hop_of x.path p) (sym one) ∙ at, (is_hop_tells _ hop stop.within).0)
