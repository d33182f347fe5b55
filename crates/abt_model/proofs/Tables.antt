-- The tables that the facts of a net give its ports.
use Rattle.std.proofs.Common.{◌≡◌, ◌≢◌, ℕ, zero, suc, ◌+◌, ◌<◌, inl, inr, refl, ap, true, false, List, [], ◌∷◌, ◌++◌, length, map, ◌∙◌, sym, subst, arith}
use Rattle.std.specs.Prelude.{◌==◌, if◌then◌else◌, slice_get, sum_by, AllPairs, Option, None, Some}
use Rattle.std.proofs.lemmas.Bool.{false≢true, ne_eqb, cond-false, cond-true, cases_Bool, cases_order, false_from_ne_true, eqb-false}
use Rattle.std.specs.List.{slice_index_or, enumerate_from}
use Rattle.std.specs.FinMap as finmap
use Rattle.std.proofs.lemmas.List.Sums.{sum_by-cons}
use Rattle.std.specs.Ordering.{is_eq}
use Rattle.std.specs.declared.cmp.Ordering.TheVariants.{Less, Equal, Greater}
use Rattle.std.specs.FinMap.{FinMap, insert, values, entries, from_entries, find, put, get-from_entries, get-insert, get-entries, entries-insert, len-entries, len-empty, same_map}
use Rattle.std.specs.FinMap.Entries.{by_order}
use Rattle.abt_facts.specs.declared.fact.Fact.{Fact}
use Rattle.abt_model.specs.declared.event.Event.{Event}
use Rattle.abt_model.specs.declared.outcome.Outcome.{Outcome}
use Rattle.abt_net.specs.declared.conn.Conn.{Conn}
use Rattle.abt_facts.specs.Hop.{held_of}
use Rattle.abt_net.specs.Topology.{Topology, IsWithinRules, conn_at}
use Rattle.abt_cell.specs.Channel.{Channel, channel_cmp, same_channel}
use Rattle.abt_model.specs.Past.{Past, facts_of}
use Rattle.abt_model.specs.Reserved.{capacity_of}
use Rattle.abt_net.specs.Paths.{hop_of}
use Rattle.abt_model.specs.Outcomes.{conn_of, facts_added, after_event}
use Rattle.abt_model.specs.PortTable.{kept_at, kept_from, port_table, hop_visited, VisitsBy, Visits, TotalsAreReserved, TablesHaveRows, TablesStay}
use Rattle.abt_node.specs.Table.{Connection, held_at, connection_at, with_connection}
use Rattle.abt_model.proofs.Sums.{numbered_sum, holding}
use Rattle.abt_model.proofs.Capacities.{capacity_of-own, after_event-alone, alone_stays}
use Rattle.abt_model.proofs.Worlds.{cases_option, conn_cases, facts_of-own, facts_of-other, outcome_of-known, AllLawful, lawful_at}
use Rattle.abt_model.proofs.AnswerRows.{step_stays}
use Rattle.abt_model.proofs.Lawful.{route_of}
use Rattle.abt_model.proofs.Decisions.{held_by-held}
use Rattle.abt_cell.proofs.ChannelLemmas.{channel_cmp_total, channel_cmp-IsAntisymmetric, same_channel_tied, same_channel-is, same_channel-refl}

-- the connection of a channel among those through a port, from number c on
abbrev pub find_from : Channel → ℕ → List Conn → Past → ℕ → Option Connection
find_from q c [] past p = None
find_from q c (conn ∷ conns) past p =
    if hop_of conn.path p == 0
    then find_from q (c + 1) conns past p
    else (if same_channel q conn.vc then Some (kept_at conn (facts_of c past) (hop_of conn.path p)) else find_from q (c + 1) conns past p)

find-kept : (q : Channel) (c : ℕ) (conns : List Conn) (past : Past) (p : ℕ) → find channel_cmp q (kept_from c conns past p) ≡ find_from q c conns past p
find-kept q c [] past p = refl
find-kept q c (conn ∷ conns) past p = elim (cases_Bool (hop_of conn.path p == 0)) [
  | inl t ↦ ap (find channel_cmp q) (cond-true _ _ _ t) ∙ find-kept q (c + 1) conns past p ∙ sym (cond-true _ _ _ t)
  | inr f ↦
      ap (find channel_cmp q) (cond-false _ _ _ f)
      ∙ (λ i. if sym (same_channel_tied q conn.vc) i then Some (kept_at conn (facts_of c past) (hop_of conn.path p)) else find-kept q (c + 1) conns past p i)
      ∙ sym (cond-false _ _ _ f)
]

pub get-table : (net : Topology) (past : Past) (p : ℕ) (q : Channel) → connection_at (port_table net past p) q ≡ find_from q 0 net.conns past p
get-table net past p q = get-from_entries channel_cmp_total (kept_from 0 net.conns past p) q ∙ find-kept q 0 net.conns past p

differ : (a b : Channel) → a ≢ b → same_channel a b ≡ false
differ a b ne = false_from_ne_true _ (λ t. ne (same_channel-is a b t))

-- an element at a place
place_of : {A : Type 0} → (xs : List A) (i : ℕ) (x d : A) → slice_get xs i ≡ Some x → (i < length xs) × (slice_index_or xs i d ≡ x)
place_of [] i x d e = absurd (cc)
place_of (y ∷ xs) zero x d e = (omega arith, cc)
place_of (y ∷ xs) (suc i) x d e = (let rest = place_of xs i x d e in (omega arith, rest.1))

abbrev pub OwnChannels : List Conn → Type 0
OwnChannels conns = AllPairs (λ (a b : Conn). a.vc ≢ b.vc) conns

others_own : (conn : Conn) (conns : List Conn) → OwnChannels (conn ∷ conns) → OwnChannels conns
others_own conn conns own = λ i j d less low. own (suc i) (suc j) d (omega arith) (omega arith)

first_own : (conn : Conn) (conns : List Conn) → OwnChannels (conn ∷ conns) → (i : ℕ) (other : Conn) → slice_get conns i ≡ Some other → conn.vc ≢ other.vc
first_own conn conns own i other at =
    let place = place_of conns i other conn at in
    subst (λ (x : Conn). conn.vc ≢ x.vc) place.1 (own 0 (suc i) conn (omega arith) (omega (arith, place.0)))

-- the one of a channel is found
find_at : (past : Past) (p c n i : ℕ) (conns : List Conn) (conn : Conn) → OwnChannels conns → c ≡ n + i → slice_get conns i ≡ Some conn → hop_of conn.path p ≢ 0 →
    find_from conn.vc n conns past p ≡ Some (kept_at conn (facts_of c past) (hop_of conn.path p))
find_at past p c n i [] conn own place at through = absurd (cc)
find_at past p c n zero (first ∷ conns) conn own place at through =
    let is : first ≡ conn = cc in
    let here : n ≡ c = omega arith in
    let through_first : hop_of first.path p ≢ 0 = subst (λ (x : Conn). hop_of x.path p ≢ 0) (sym is) through in
    let found : find_from first.vc n (first ∷ conns) past p ≡ Some (kept_at first (facts_of n past) (hop_of first.path p)) =
    cond-false _ _ _ (ne_eqb _ _ through_first) ∙ cond-true _ _ _ (same_channel-refl first.vc) in
    subst (λ (x : Conn). find_from x.vc n (first ∷ conns) past p ≡ Some (kept_at x (facts_of c past) (hop_of x.path p))) is
    (found ∙ ap (λ (m : ℕ). Some (kept_at first (facts_of m past) (hop_of first.path p))) here)
find_at past p c n (suc i) (first ∷ conns) conn own place at through =
    let rest = find_at past p c (n + 1) i conns conn (others_own first conns own) (omega arith) at through in
    let apart : same_channel conn.vc first.vc ≡ false = differ conn.vc first.vc (λ e. first_own first conns own i conn at (sym e)) in
    elim (cases_Bool (hop_of first.path p == 0)) [
      | inl t ↦ cond-true _ _ _ t ∙ rest
      | inr f ↦ cond-false _ _ _ f ∙ cond-false _ _ _ apart ∙ rest
    ]

find_none : (past : Past) (p n : ℕ) (conns : List Conn) (q : Channel) → ((i : ℕ) (conn : Conn) → slice_get conns i ≡ Some conn → q ≢ conn.vc) → find_from q n conns past p ≡ None
find_none past p n [] q none = refl
find_none past p n (first ∷ conns) q none =
    let rest = find_none past p (n + 1) conns q (λ i conn at. none (suc i) conn at) in
    elim (cases_Bool (hop_of first.path p == 0)) [
      | inl t ↦ cond-true _ _ _ t ∙ rest
      | inr f ↦ cond-false _ _ _ f ∙ cond-false _ _ _ (differ q first.vc (none 0 first refl)) ∙ rest
    ]

-- what is found is the same where each connection of the channel keeps the same
find_same : (past after : Past) (p n : ℕ) (conns : List Conn) (q : Channel) →
    ((i : ℕ) (conn : Conn) → slice_get conns i ≡ Some conn → q ≡ conn.vc → hop_of conn.path p ≢ 0 → kept_at conn (facts_of (n + i) after) (hop_of conn.path p) ≡ kept_at conn (facts_of (n + i) past) (hop_of conn.path p)) →
    find_from q n conns after p ≡ find_from q n conns past p
find_same past after p n [] q same = refl
find_same past after p n (first ∷ conns) q same =
    let h = hop_of first.path p in
    let rest = find_same past after p (n + 1) conns q (λ i conn at is through. (
    let further : n + suc i ≡ (n + 1) + i = omega arith in
    subst (λ (m : ℕ). kept_at conn (facts_of m after) (hop_of conn.path p) ≡ kept_at conn (facts_of m past) (hop_of conn.path p)) further (same (suc i) conn at is through))) in
    elim (cases_Bool (hop_of first.path p == 0)) [
      | inl t ↦ cond-true _ _ _ t ∙ rest ∙ sym (cond-true _ _ _ t)
      | inr f ↦ cond-false _ _ _ f ∙ (elim (cases_Bool (same_channel q first.vc)) [
        | inl is ↦ (
            let here : n + 0 ≡ n = omega arith in
            let mine = subst (λ (m : ℕ). kept_at first (facts_of m after) (hop_of first.path p) ≡ kept_at first (facts_of m past) (hop_of first.path p)) here (same 0 first refl (same_channel-is q first.vc is) (eqb-false _ _ f)) in
            cond-true _ _ _ is ∙ ap Some mine ∙ sym (cond-true _ _ _ is))
        | inr apart ↦ cond-false _ _ _ apart ∙ rest ∙ sym (cond-false _ _ _ apart)
      ]) ∙ sym (cond-false _ _ _ f)
    ]

-- two tables of a port are one where each channel finds the same and the capacity is one
tables_same : (net : Topology) (past after : Past) (p : ℕ) → ((q : Channel) → find_from q 0 net.conns after p ≡ find_from q 0 net.conns past p) → capacity_of net after p ≡ capacity_of net past p → port_table net after p ≡ port_table net past p
tables_same net past after p same force =
    ap (λ (m : FinMap channel_cmp Connection). record { id = p; capacity = capacity_of net after p; connections = m })
    (same_map channel_cmp_total channel_cmp-IsAntisymmetric (from_entries (kept_from 0 net.conns after p)) (from_entries (kept_from 0 net.conns past p)) (λ q. get-table net after p q ∙ same q ∙ sym (get-table net past p q)))
    ∙ ap (λ (u : ℕ). record { id = p; capacity = u; connections = from_entries (kept_from 0 net.conns past p) }) force

pub tables_have_rows : (net : Topology) (past : Past) → IsWithinRules net → TablesHaveRows net past
tables_have_rows net past rules c p conn known through =
    get-table net past p conn.vc ∙ find_at past p c 0 c net.conns conn rules.own_channels (omega arith) known through

-- the number of a channel's connection is one
same_number : (conns : List Conn) (c d : ℕ) (conn other : Conn) → OwnChannels conns → slice_get conns c ≡ Some conn → slice_get conns d ≡ Some other → conn.vc ≡ other.vc → c ≡ d
same_number conns c d conn other own at_c at_d same =
    let here = place_of conns c conn conn at_c in
    let there = place_of conns d other conn at_d in
    elim (cases_order c d) [
      | inl e ↦ e
      | inr (inl less) ↦ absurd ((subst (λ (x : Conn). x.vc ≢ other.vc) here.1 (subst (λ (y : Conn). (slice_index_or conns c conn).vc ≢ y.vc) there.1 (own c d conn less there.0))) same)
      | inr (inr more) ↦ absurd ((subst (λ (x : Conn). other.vc ≢ x.vc) here.1 (subst (λ (y : Conn). y.vc ≢ (slice_index_or conns c conn).vc) there.1 (own d c conn more here.0))) (sym same))
    ]

-- what one connection keeps is put in its place
pub table_with : (net : Topology) (past after : Past) (c p : ℕ) (conn : Conn) (new : Connection) → IsWithinRules net → conn_at net c ≡ Some conn → hop_of conn.path p ≢ 0 →
    new ≡ kept_at conn (facts_of c after) (hop_of conn.path p) → ((d : ℕ) → c ≢ d → facts_of d after ≡ facts_of d past) → capacity_of net after p ≡ capacity_of net past p →
    with_connection (port_table net past p) conn.vc new ≡ port_table net after p
table_with net past after c p conn new rules known through is others force =
    ap (λ (m : FinMap channel_cmp Connection). record { id = p; capacity = capacity_of net past p; connections = m })
    (same_map channel_cmp_total channel_cmp-IsAntisymmetric (insert (from_entries (kept_from 0 net.conns past p)) conn.vc new) (from_entries (kept_from 0 net.conns after p)) (λ q.
    get-insert channel_cmp_total (from_entries (kept_from 0 net.conns past p)) conn.vc new q
    ∙ (λ i. if sym (same_channel_tied q conn.vc) i then Some new else get-table net past p q i)
    ∙ at_channel q ∙ sym (get-table net after p q)))
    ∙ ap (λ (u : ℕ). record { id = p; capacity = u; connections = from_entries (kept_from 0 net.conns after p) }) (sym force)
  where
    at_channel : (q : Channel) → (if same_channel q conn.vc then Some new else find_from q 0 net.conns past p) ≡ find_from q 0 net.conns after p
    at_channel q = elim (cases_Bool (same_channel q conn.vc)) [
      | inl t ↦ (
          let e : conn.vc ≡ q = sym (same_channel-is q conn.vc t) in
          cond-true _ _ _ t ∙ ap Some is
          ∙ sym (find_at after p c 0 c net.conns conn rules.own_channels (omega arith) known through)
          ∙ ap (λ (x : Channel). find_from x 0 net.conns after p) e)
      | inr f ↦ cond-false _ _ _ f ∙ sym (find_same past after p 0 net.conns q (λ i other at same through_other. (
          let apart : c ≢ i = λ e. (
          let known_i : slice_get net.conns i ≡ Some conn = ap (slice_get net.conns) (sym e) ∙ known in
          let is_conn : Some conn ≡ Some other = sym known_i ∙ at in
          let one : conn ≡ other = cc in
          false≢true (sym f ∙ subst (λ (x : Channel). same_channel q x ≡ true) (same ∙ ap (λ (x : Conn). x.vc) (sym one)) (same_channel-refl q))) in
          let number : 0 + i ≡ i = omega arith in
          ap (λ (fs : List Fact). kept_at other fs (hop_of other.path p)) (ap (λ (m : ℕ). facts_of m after) number ∙ others i apart ∙ ap (λ (m : ℕ). facts_of m past) (sym number)))))
    ]

-- ---- the sum

sum_by-put : (f : Connection → ℕ) (k : Channel) (v : Connection) (es : List (Channel × Connection)) → find channel_cmp k es ≡ None
    → sum_by f (map (λ e. e.1) (put channel_cmp k v es)) ≡ f v + sum_by f (map (λ e. e.1) es)
sum_by-put f k v [] h = sum_by-cons f v []
sum_by-put f k v (e ∷ es) h =
    let xs = map (λ e. e.1) es in
    elim (channel_cmp k e.0) as (λ r. (if is_eq r then Some e.1 else find channel_cmp k es) ≡ None →
    sum_by f (map (λ e. e.1) (by_order r ((k, v) ∷ e ∷ es) ((e.0, v) ∷ es) (e ∷ put channel_cmp k v es))) ≡ f v + sum_by f (e.1 ∷ xs)) [
      | Less ↦ λ p. sum_by-cons f v (e.1 ∷ xs)
      | Equal ↦ λ p. absurd (cc)
      | Greater ↦ λ p. omega (arith, sum_by-cons f e.1 (map (λ e. e.1) (put channel_cmp k v es)), sum_by-put f k v es p, sum_by-cons f e.1 xs)
    ] h

nil_of_length : {A : Type 0} (xs : List A) → length xs ≡ 0 → xs ≡ []
nil_of_length [] e = refl
nil_of_length (x ∷ xs) e = absurd (omega arith)

abbrev table_sum : List (Channel × Connection) → ℕ
table_sum es = sum_by held_at (values (from_entries {R = channel_cmp} es))

sum-insert : (es : List (Channel × Connection)) (k : Channel) (v : Connection) → find channel_cmp k es ≡ None → table_sum ((k, v) ∷ es) ≡ held_at v + table_sum es
sum-insert es k v fresh =
    ap (λ (xs : List (Channel × Connection)). sum_by held_at (map (λ e. e.1) xs)) (entries-insert channel_cmp_total (from_entries es) k v)
    ∙ sum_by-put held_at k v (entries (from_entries es)) (sym (get-entries (from_entries es) k) ∙ get-from_entries channel_cmp_total es k ∙ fresh)

-- the connections of the list hold what they hold on the port
abbrev HoldsAsFound : Past → ℕ → List Conn → Type 0
HoldsAsFound past n conns = (i : ℕ) (conn : Conn) → slice_get conns i ≡ Some conn → (j : ℕ) → held_at (kept_at conn (facts_of (n + i) past) j) ≡ held_of (facts_of (n + i) past) j

kept_sum : (past : Past) (p n : ℕ) (conns : List Conn) → OwnChannels conns → HoldsAsFound past n conns →
    table_sum (kept_from n conns past p) ≡ numbered_sum (holding past p) n conns
kept_sum past p n [] own holds = ap (λ (es : List (Channel × Connection)). sum_by held_at (map (λ e. e.1) es)) (nil_of_length _ (sym (len-entries finmap.empty) ∙ len-empty channel_cmp Connection))
kept_sum past p n (first ∷ conns) own holds =
    let h = hop_of first.path p in
    let further : HoldsAsFound past (n + 1) conns = λ i conn at j. (
    let e : n + suc i ≡ (n + 1) + i = omega arith in
    subst (λ (m : ℕ). held_at (kept_at conn (facts_of m past) j) ≡ held_of (facts_of m past) j) e (holds (suc i) conn at j)) in
    let rest = kept_sum past p (n + 1) conns (others_own first conns own) further in
    let whole = sum_by-cons (holding past p) (n, first) (enumerate_from (n + 1) conns) in
    elim (cases_Bool (hop_of first.path p == 0)) [
      | inl t ↦ (
          let none : holding past p (n, first) ≡ 0 = cond-true _ _ _ t in
          let skipped : table_sum (kept_from n (first ∷ conns) past p) ≡ table_sum (kept_from (n + 1) conns past p) = ap table_sum (cond-true _ _ _ t) in
          omega (arith, rest, whole, none, skipped))
      | inr f ↦ (
          let some : holding past p (n, first) ≡ held_of (facts_of n past) (hop_of first.path p) = cond-false _ _ _ f in
          let fresh : find channel_cmp first.vc (kept_from (n + 1) conns past p) ≡ None = find-kept first.vc (n + 1) conns past p ∙ find_none past p (n + 1) conns first.vc (λ i conn at. first_own first conns own i conn at) in
          let here : n + 0 ≡ n = omega arith in
          let mine = subst (λ (m : ℕ). held_at (kept_at first (facts_of m past) (hop_of first.path p)) ≡ held_of (facts_of m past) (hop_of first.path p)) here (holds 0 first refl (hop_of first.path p)) in
          let added : table_sum (kept_from n (first ∷ conns) past p) ≡ held_at (kept_at first (facts_of n past) (hop_of first.path p)) + table_sum (kept_from (n + 1) conns past p) =
          ap table_sum (cond-false _ _ _ f) ∙ sum-insert (kept_from (n + 1) conns past p) first.vc (kept_at first (facts_of n past) (hop_of first.path p)) fresh in
          omega (arith, rest, whole, some, mine, added))
    ]

pub totals_reserved : (net : Topology) (past : Past) → IsWithinRules net → AllLawful net past → TotalsAreReserved net past
totals_reserved net past rules lawful p =
    kept_sum past p 0 net.conns rules.own_channels (λ i conn at j. (
    let number : i ≡ 0 + i = omega arith in
    subst (λ (m : ℕ). held_at (kept_at conn (facts_of m past) j) ≡ held_of (facts_of m past) j) number (held_by-held (route_of conn) (facts_of i past) (lawful_at net past lawful i conn at) j)))

-- ---- what does not come to a port

capacity_stays : (net : Topology) (past : Past) (e : Event) (p : ℕ) → ¬ Visits net e p → capacity_of net (after_event net past e) p ≡ capacity_of net past p
capacity_stays net past e p away = elim (cases_option (conn_of e)) [
  | inl alone ↦ ap (λ (v : Past). capacity_of net v p) (after_event-alone net past e alone) ∙ alone_stays net past e p (λ comes. away (subst (VisitsBy net e p) (sym alone) comes))
  | inr own ↦ capacity_of-own net past e p own.0 own.1
]

pub tables_stay : (net : Topology) (past : Past) → IsWithinRules net → AllLawful net past → TablesStay net past
tables_stay net past rules lawful e p rate away = tables_same net past (after_event net past e) p (λ q. find_same past (after_event net past e) p 0 net.conns q (λ i conn at is through. (
    let number : i ≡ 0 + i = omega arith in
    subst (λ (m : ℕ). kept_at conn (facts_of m (after_event net past e)) (hop_of conn.path p) ≡ kept_at conn (facts_of m past) (hop_of conn.path p)) number (
    elim (conn_cases e i) [
      | inl own ↦ (
          let now_is = facts_of-own net past e i own ∙ ap (λ (o : Outcome). facts_added (facts_of i past) e o ++ facts_of i past) (outcome_of-known net past e i conn own at) in
          let elsewhere : hop_visited e ≢ hop_of conn.path p =
          λ same. away (subst (VisitsBy net e p) (sym own) (conn, at, (let some : hop_of conn.path p ≢ 0 = through in omega arith), sym same)) in
          let stays = step_stays conn _ _ (facts_of i past) (lawful_at net past lawful i conn at) e (hop_of conn.path p) (let some : hop_of conn.path p ≢ 0 = through in omega arith) elsewhere in
          ap (λ (l : List Fact). kept_at conn l (hop_of conn.path p)) now_is ∙ stays)
      | inr differ ↦ ap (λ (l : List Fact). kept_at conn l (hop_of conn.path p)) (facts_of-other net past e i differ)
    ])))) (capacity_stays net past e p away)
