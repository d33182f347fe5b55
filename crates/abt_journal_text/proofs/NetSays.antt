-- The lines of a net and of an end say these.
use Rattle.std.proofs.Common.{◌≡◌, ℕ, ◌<◌, ◌≤◌, ◌^◌, List, [], ◌∷◌, map, refl, arith}
use Rattle.std.specs.Prelude.{Ok, All}
use Rattle.std.proofs.lemmas.List.Elements.{All-head, All-tail}
use Rattle.json.specs.Json.{max_depth}
use Rattle.json.specs.Strict.{HasUniqueKeys, ItemsHaveUniqueKeys}
use Rattle.json.specs.Tree.{depth, items_depth}
use Rattle.abt_net.specs.Topology.{Topology}
use Rattle.abt_net.specs.declared.conn.Conn.{Conn}
use Rattle.abt_entry.specs.Written.{number_json}
use Rattle.abt_entry.specs.declared.member.Member.{Member}
use Rattle.abt_entry.specs.declared.member.Member.TheVariants as of
use Rattle.abt_entry.specs.Lines.{Says, line_in}
use Rattle.abt_entry.specs.NetLines.{each, numbers_in, conn_in}
use Rattle.abt_entry.specs.declared.line.Line.TheVariants as line
use Rattle.abt_journal_text.specs.Fits.{IsChannel}
use Rattle.abt_journal_text.specs.NetJson.{line_of, items_of, conn_json, net_json, end_json}
use Rattle.abt_journal_text.proofs.Plain.{IsPlainJson, ArePlainItems, read_back}
use Rattle.abt_journal_text.proofs.Keys.{distinct_names, name_utf8}
use Rattle.abt_journal_text.proofs.Readings.{then_read, whole_back}

-- the numbers of a connection, and of a net
pub record IsConn (conn : Conn) : Type 0 where
  pub vc : IsChannel conn.vc
  pub path : All (λ hop. hop < 2 ^ 16) conn.path
  pub delay : conn.delay < 2 ^ 64
  pub tau : conn.tau < 2 ^ 64

pub record IsNet (net : Topology) : Type 0 where
  pub capacities : All (λ units. units < 2 ^ 64) net.capacities
  pub conns : All IsConn net.conns

numbers_back : (limit : ℕ) (name : Member) (ns : List ℕ) → limit ≤ 2 ^ 64 → All (λ n. n < limit) ns
    → numbers_in limit name (items_of (map number_json ns)) ≡ Ok ns
numbers_back limit name [] within low = refl
numbers_back limit name (n ∷ ns) within low =
    then_read _ n _ _ (whole_back limit n name (All-head (λ n. n < limit) n ns low) within)
    (then_read _ ns _ _ (numbers_back limit name ns within (All-tail (λ n. n < limit) n ns low)) refl)

conn_back : (conn : Conn) → IsConn conn → conn_in (conn_json conn) ≡ Ok conn
conn_back conn is =
    then_read _ conn.vc _ _
    (then_read _ conn.vc.vpi _ _ (whole_back (2 ^ 12) conn.vc.vpi of.Vpi is.vc.0 (omega arith))
    (then_read _ conn.vc.vci _ _ (whole_back (2 ^ 16) conn.vc.vci of.Vci is.vc.1 (omega arith)) refl))
    (then_read _ conn.path _ _ (numbers_back (2 ^ 16) of.Path conn.path (omega arith) is.path)
    (then_read _ conn.delay _ _ (whole_back (2 ^ 64) conn.delay of.Delay is.delay (omega arith))
    (then_read _ conn.tau _ _ (whole_back (2 ^ 64) conn.tau of.Tau is.tau (omega arith)) refl)))

conns_back : (conns : List Conn) → All IsConn conns → each conn_in (items_of (map conn_json conns)) ≡ Ok conns
conns_back [] are = refl
conns_back (conn ∷ conns) are =
    then_read _ conn _ _ (conn_back conn (All-head IsConn conn conns are))
    (then_read _ conns _ _ (conns_back conns (All-tail IsConn conn conns are)) refl)

net_back : (net : Topology) → IsNet net → line_in (net_json net) ≡ Ok (line.Net net)
net_back net is =
    then_read _ net _ _
    (then_read _ net.capacities _ _ (numbers_back (2 ^ 64) of.Ports net.capacities (omega arith) is.capacities)
    (then_read _ net.conns _ _ (conns_back net.conns is.conns) refl)) refl

numbers_plain : (limit : ℕ) (ns : List ℕ) → limit ≤ 2 ^ 64 → All (λ n. n < limit) ns → ArePlainItems (items_of (map number_json ns))
numbers_plain limit [] within low = tt
numbers_plain limit (n ∷ ns) within low =
    let first = All-head (λ n. n < limit) n ns low in
    ((n, omega (arith, first, within), refl), numbers_plain limit ns within (All-tail (λ n. n < limit) n ns low))

conn_plain : (conn : Conn) → IsConn conn → IsPlainJson (conn_json conn)
conn_plain conn is =
    (name_utf8 of.Vpi, (conn.vc.vpi, omega (arith, is.vc.0), refl), (name_utf8 of.Vci, (conn.vc.vci, omega (arith, is.vc.1), refl), (name_utf8 of.Path, numbers_plain (2 ^ 16) conn.path (omega arith) is.path, (name_utf8 of.Delay, (conn.delay, is.delay, refl), (name_utf8 of.Tau, (conn.tau, is.tau, refl), tt)))))

conns_plain : (conns : List Conn) → All IsConn conns → ArePlainItems (items_of (map conn_json conns))
conns_plain [] are = tt
conns_plain (conn ∷ conns) are = (conn_plain conn (All-head IsConn conn conns are), conns_plain conns (All-tail IsConn conn conns are))

pub net_plain : (net : Topology) → IsNet net → IsPlainJson (net_json net)
net_plain net is =
    (name_utf8 of.Net, (name_utf8 of.Ports, numbers_plain (2 ^ 64) net.capacities (omega arith) is.capacities, (name_utf8 of.Connections, conns_plain net.conns is.conns, tt)), tt)

numbers_depth : (ns : List ℕ) → items_depth (items_of (map number_json ns)) ≤ 0
numbers_depth [] = omega arith
numbers_depth (n ∷ ns) = omega (arith, numbers_depth ns)

conn_depth : (conn : Conn) → depth (conn_json conn) ≤ 2
conn_depth conn = omega (arith, numbers_depth conn.path)

conns_depth : (conns : List Conn) → items_depth (items_of (map conn_json conns)) ≤ 2
conns_depth [] = omega arith
conns_depth (conn ∷ conns) = omega (arith, conn_depth conn, conns_depth conns)

net_depth : (net : Topology) → depth (net_json net) ≤ max_depth
net_depth net = omega (arith, numbers_depth net.capacities, conns_depth net.conns)

numbers_unique : (ns : List ℕ) → ItemsHaveUniqueKeys (items_of (map number_json ns))
numbers_unique [] = tt
numbers_unique (n ∷ ns) = (tt, numbers_unique ns)

conns_unique : (conns : List Conn) → ItemsHaveUniqueKeys (items_of (map conn_json conns))
conns_unique [] = tt
conns_unique (conn ∷ conns) = ((distinct_names (of.Vpi ∷ of.Vci ∷ of.Path ∷ of.Delay ∷ of.Tau ∷ []) refl, (tt, (tt, (numbers_unique conn.path, (tt, (tt, tt)))))), conns_unique conns)

net_unique : (net : Topology) → HasUniqueKeys (net_json net)
net_unique net = (distinct_names (of.Net ∷ []) refl, ((distinct_names (of.Ports ∷ of.Connections ∷ []) refl, (numbers_unique net.capacities, (conns_unique net.conns, tt))), tt))

pub net_says : (net : Topology) → IsNet net → Says (line_of (net_json net)) (line.Net net)
net_says net is = record {
  json = net_json net;
  read = read_back (net_json net) (net_plain net is) (net_depth net);
  unique = net_unique net;
  is = net_back net is;
}

pub end_plain : IsPlainJson end_json
end_plain = (name_utf8 of.End, tt, tt)

pub end_says : Says (line_of end_json) line.End
end_says = record {
  json = end_json;
  read = read_back end_json end_plain (omega arith);
  unique = (distinct_names (of.End ∷ []) refl, (tt, tt));
  is = refl;
}
