-- The connections through a port, as it begins.
use Rattle.std.proofs.Common.{◌≡◌, ◌≢◌, ℕ, suc, ◌+◌, ◌<◌, ◌≤◌, ◌==◌, Bool, true, false, not, cond, List, [], ◌∷◌, length, drop, get_or, AllPairs, Option, Some, None, refl, sym, ap, subst, ◌∙◌, arith}
use lib.Dec.{eqb}
use Rattle.std.specs.Option.{option_map, option_eq}
use Rattle.std.proofs.lemmas.Bool.Decides.{nat_tests}
use Rattle.std.specs.List.{AllByRecursion}
use Rattle.std.specs.FinMap.{FinMap, len, from_entries}
use Rattle.std.proofs.lemmas.List.{drop_more, drop_all}
use Rattle.abt_cell.specs.Channel.{Channel, channel_cmp}
use Rattle.abt_net.specs.declared.conn.Conn.{Conn}
use Rattle.abt_net.specs.Topology.{Topology}
use Rattle.abt_node.specs.Table.{Connection, Table, opening, connection_at}
use Rattle.abt_net.specs.Paths.{hop_of, policer_at, policer_at_hop}
use Rattle.abt_model.specs.PortTable.{policing_by, kept_at, kept_from, port_table}
use Rattle.abt_model.specs.Decision.{reservation_at}
use Rattle.abt_journal.specs.Opening.{tau_of, as_added, IsOpening}
use Rattle.abt_journal.proofs.Openings.{tau_of-opening}
use Rattle.abt_journal.proofs.Rows.{Rows, AreApart, HasRows, map_of_rows, rows_of_map}

abbrev pub with_row : Option (Option ℕ) → Channel → Rows → Rows
with_row None vc rows = rows
with_row (Some tau) vc rows = (vc, opening tau) ∷ rows

-- the row of each connection through a port
abbrev pub rows_through : ℕ → List Conn → Rows
rows_through p [] = []
rows_through p (conn ∷ conns) = with_row (policer_at conn p) conn.vc (rows_through p conns)

row_by : (conn : Conn) (hop : ℕ) (unvisited first : Bool) (rows : Rows)
    → cond unvisited rows ((conn.vc, record { reservation = reservation_at [] hop; policing = cond first (Some (policing_by conn.tau [])) None }) ∷ rows)
    ≡ with_row (cond unvisited None (Some (cond first (Some conn.tau) None))) conn.vc rows
row_by conn hop true first rows = refl
row_by conn hop false true rows = refl
row_by conn hop false false rows = refl

row_at_hop : (conn : Conn) (hop : ℕ) (rows : Rows) → cond (hop == 0) rows ((conn.vc, kept_at conn [] hop) ∷ rows) ≡ with_row (policer_at_hop conn.tau hop) conn.vc rows
row_at_hop conn hop rows = row_by conn hop (hop == 0) (hop == 1) rows

-- they are what a net's table has before the first event
pub kept_from-begins : (c : ℕ) (conns : List Conn) (p : ℕ) → kept_from c conns [] p ≡ rows_through p conns
kept_from-begins c [] p = refl
kept_from-begins c (conn ∷ conns) p =
    ap (λ rows. cond (hop_of conn.path p == 0) rows ((conn.vc, kept_at conn [] (hop_of conn.path p)) ∷ rows)) (kept_from-begins (c + 1) conns p)
    ∙ row_at_hop conn (hop_of conn.path p) (rows_through p conns)

abbrev OwnChannels : List Conn → Type 0
OwnChannels conns = AllPairs (λ (a b : Conn). a.vc ≢ b.vc) conns

apart_with : (vc other : Channel) (o : Option (Option ℕ)) (rows : Rows) → vc ≢ other → AllByRecursion (λ (x : Channel × Connection). vc ≢ x.0) rows
    → AllByRecursion (λ (x : Channel × Connection). vc ≢ x.0) (with_row o other rows)
apart_with vc other None rows ne apart = apart
apart_with vc other (Some tau) rows ne apart = (ne, apart)

others_apart : (vc : Channel) (p : ℕ) (conns : List Conn) → ((i : ℕ) (d : Conn) → i < length conns → vc ≢ (get_or conns i d).vc) → AllByRecursion (λ (x : Channel × Connection). vc ≢ x.0) (rows_through p conns)
others_apart vc p [] ne = tt
others_apart vc p (conn ∷ conns) ne =
    apart_with vc conn.vc (policer_at conn p) (rows_through p conns) (ne 0 conn (omega arith)) (others_apart vc p conns (λ i d below. ne (suc i) d (omega arith)))

are_apart_with : (vc : Channel) (o : Option (Option ℕ)) (rows : Rows) → AllByRecursion (λ (x : Channel × Connection). vc ≢ x.0) rows → AreApart rows → AreApart (with_row o vc rows)
are_apart_with vc None rows ne apart = apart
are_apart_with vc (Some tau) rows ne apart = (ne, apart)

pub rows_apart : (p : ℕ) (conns : List Conn) → OwnChannels conns → AreApart (rows_through p conns)
rows_apart p [] own = tt
rows_apart p (conn ∷ conns) own =
    are_apart_with conn.vc (policer_at conn p) (rows_through p conns)
    (others_apart conn.vc p conns (λ i d below. own 0 (suc i) d (omega arith) (omega arith)))
    (rows_apart p conns (λ i j d order below. own (suc i) (suc j) d (omega arith) (omega arith)))

-- a tau tells what a port keeps of a connection as it begins
told : (tau : Option ℕ) (o : Option Connection) → ((c : Connection) → o ≡ Some c → c ≡ as_added c) → option_map tau_of o ≡ Some tau → o ≡ Some (opening tau)
told tau None added is = absurd (cc)
told tau (Some c) added is =
    let same : tau_of c ≡ tau = cc in
    ap Some (added c refl ∙ ap opening same)

pub tau_tells : (t : Table) (vc : Channel) (tau : Option ℕ) → IsOpening t → option_map tau_of (connection_at t vc) ≡ Some tau → connection_at t vc ≡ Some (opening tau)
tau_tells t vc tau opens is = told tau (connection_at t vc) (opens.rows vc) is

pub tells_tau : (t : Table) (vc : Channel) (tau : Option ℕ) → connection_at t vc ≡ Some (opening tau) → option_map tau_of (connection_at t vc) ≡ Some tau
tells_tau t vc tau is = ap (option_map tau_of) is ∙ ap Some (tau_of-opening tau)

-- What is known as far as connection number i.
pub record IsCounted (t : Table) (p : ℕ) (conns : List Conn) (i through : ℕ) : Type 0 where
  pub at_most : through ≤ i
  pub counted : through + length (rows_through p (drop i conns)) ≡ length (rows_through p conns)
  pub to : HasRows t.connections (rows_through p (drop i conns)) → HasRows t.connections (rows_through p conns)
  pub from : HasRows t.connections (rows_through p conns) → HasRows t.connections (rows_through p (drop i conns))

pub counting_begins : (t : Table) (p : ℕ) (conns : List Conn) → IsCounted t p conns 0 0
counting_begins t p conns = record { at_most = omega arith; counted = omega arith; to = λ h. h; from = λ h. h }

next_rows : (p : ℕ) (conns : List Conn) (i : ℕ) (conn : Conn) (o : Option (Option ℕ)) → i < length conns → conn ≡ get_or conns i conn → o ≡ policer_at conn p
    → rows_through p (drop i conns) ≡ with_row o conn.vc (rows_through p (drop (i + 1) conns))
next_rows p conns i conn o below at is =
    ap (rows_through p) (drop_more conns i conn below)
    ∙ ap (λ (x : Conn). with_row (policer_at x p) x.vc (rows_through p (drop (i + 1) conns))) (sym at)
    ∙ ap (λ x. with_row x conn.vc (rows_through p (drop (i + 1) conns))) (sym is)

-- past a connection that doesn't go through the port
pub passes_by : (t : Table) (p : ℕ) (conns : List Conn) (i through : ℕ) (conn : Conn) → i < length conns → conn ≡ get_or conns i conn → None ≡ policer_at conn p
    → IsCounted t p conns i through → IsCounted t p conns (i + 1) through
passes_by t p conns i through conn below at is h =
    let next : rows_through p (drop i conns) ≡ rows_through p (drop (i + 1) conns) = next_rows p conns i conn None below at is in record {
      at_most = omega (arith, h.at_most);
      counted = ap (λ (rows : Rows). through + length rows) (sym next) ∙ h.counted;
      to = λ has. h.to (subst (HasRows t.connections) (sym next) has);
      from = λ has. subst (HasRows t.connections) next (h.from has);
    }

-- past a connection that goes through it, and that the table has
pub goes_through : (t : Table) (p : ℕ) (conns : List Conn) (i through : ℕ) (conn : Conn) (tau : Option ℕ) → i < length conns → conn ≡ get_or conns i conn → Some tau ≡ policer_at conn p
    → connection_at t conn.vc ≡ Some (opening tau) → IsCounted t p conns i through → IsCounted t p conns (i + 1) (through + 1)
goes_through t p conns i through conn tau below at is has_it h =
    let next : rows_through p (drop i conns) ≡ (conn.vc, opening tau) ∷ rows_through p (drop (i + 1) conns) = next_rows p conns i conn (Some tau) below at is in record {
      at_most = omega (arith, h.at_most);
      counted = omega (arith, ap length next, h.counted);
      to = λ has. h.to (subst (HasRows t.connections) (sym next) (has_it, has));
      from = λ has. (subst (HasRows t.connections) next (h.from has)).1;
    }

-- the connections with which the port of a net begins
abbrev begins_with : Topology → ℕ → FinMap channel_cmp Connection
begins_with net p = (port_table net [] p).connections

as_rows : (net : Topology) (p : ℕ) → begins_with net p ≡ from_entries (rows_through p net.conns)
as_rows net p = ap from_entries (kept_from-begins 0 net.conns p)

-- a connection that goes through the port, and that the table doesn't have
pub lacks : (t : Table) (p : ℕ) (net : Topology) (i through : ℕ) (conn : Conn) (tau : Option ℕ) → OwnChannels net.conns → i < length net.conns → conn ≡ get_or net.conns i conn
    → Some tau ≡ policer_at conn p → ¬ (connection_at t conn.vc ≡ Some (opening tau)) → IsCounted t p net.conns i through → ¬ (t.connections ≡ begins_with net p)
lacks t p net i through conn tau own below at is lacking h same =
    let next : rows_through p (drop i net.conns) ≡ (conn.vc, opening tau) ∷ rows_through p (drop (i + 1) net.conns) = next_rows p net.conns i conn (Some tau) below at is in
    let all : HasRows t.connections (rows_through p net.conns) =
    subst (λ m. HasRows m (rows_through p net.conns)) (sym (same ∙ as_rows net p)) (rows_of_map (rows_through p net.conns) (rows_apart p net.conns own)).0 in
    lacking (subst (HasRows t.connections) next (h.from all)).0

-- at the end the connections are the net's exactly if they are as many
pub all_counted : (t : Table) (p : ℕ) (net : Topology) (i through : ℕ) → OwnChannels net.conns → length net.conns ≤ i → IsCounted t p net.conns i through
    → (through ≡ len t.connections → t.connections ≡ begins_with net p) × (t.connections ≡ begins_with net p → through ≡ len t.connections)
all_counted t p net i through own end h =
    let rows : Rows = rows_through p net.conns in
    let apart : AreApart (rows_through p net.conns) = rows_apart p net.conns own in
    let none : rows_through p (drop i net.conns) ≡ [] = ap (rows_through p) (drop_all i net.conns end) in
    let long : through ≡ length (rows_through p net.conns) = omega (arith, ap length none, h.counted) in
    let has : HasRows t.connections (rows_through p net.conns) = h.to (subst (HasRows t.connections) (sym none) tt) in (
      λ count. map_of_rows t.connections rows apart has (sym count ∙ long) ∙ sym (as_rows net p),
      λ same. long ∙ sym (rows_of_map rows apart).1 ∙ ap len (sym (same ∙ as_rows net p)),
    )

-- what a test of two taus says
same_number : (m n : ℕ) → eqb m n ≡ true → m ≡ n
same_number m n e = grind (arith, nat_tests)

one_number : (n : ℕ) → eqb n n ≡ true
one_number n = grind (arith, nat_tests)

same_tau : (a b : Option ℕ) → option_eq eqb a b ≡ true → a ≡ b
same_tau None None e = refl
same_tau None (Some n) e = absurd (cc)
same_tau (Some m) None e = absurd (cc)
same_tau (Some m) (Some n) e = ap Some (same_number m n e)

one_tau : (a : Option ℕ) → option_eq eqb a a ≡ true
one_tau None = refl
one_tau (Some n) = one_number n

pub told_tau : (a : Option (Option ℕ)) (tau : Option ℕ) → not (option_eq (option_eq eqb) a (Some tau)) ≡ false → a ≡ Some tau
told_tau None tau e = absurd (cc)
told_tau (Some other) tau e = ap Some (same_tau other tau (shown (option_eq eqb other tau) e))
  where
    shown : (b : Bool) → not b ≡ false → b ≡ true
    shown true e = refl
    shown false e = absurd (cc)

pub not_told_tau : (a : Option (Option ℕ)) (tau : Option ℕ) → not (option_eq (option_eq eqb) a (Some tau)) ≡ true → ¬ (a ≡ Some tau)
not_told_tau a tau e same =
    let one : option_eq (option_eq eqb) a (Some tau) ≡ true = ap (λ x. option_eq (option_eq eqb) x (Some tau)) same ∙ one_tau tau in
    let bad : true ≡ false = sym e ∙ ap not one in cc
