-- Lemmas about the rows of a port and the map that they stand for.
use Rattle.std.proofs.Common.{◌≡◌, ◌≢◌, ℕ, zero, suc, ◌+◌, ◌-◌, ◌<◌, Bool, true, false, cond, List, [], ◌∷◌, ◌++◌, map, is_some, length, get_or, set, sum_by, All, Option, None, Some, refl, sym, ap, subst, ◌∙◌, arith}
use Rattle.std.proofs.lemmas.List.{map-append}
use Rattle.std.proofs.lemmas.Bool.{eq-eqb, eqb-true}
use Rattle.std.proofs.lemmas.List.Sums.{sum_by-cons, sum_by_push, sum_by-set, get_or-le-sum_by}
use Rattle.std.specs.List.{AllByRecursion, IsDistinct}
use Rattle.std.specs.Option.{option_map}
use Rattle.std.specs.Ordering.{is_eq}
use Rattle.std.specs.declared.cmp.Ordering.TheVariants.{Less, Equal, Greater}
use Rattle.std.specs.FinMap.{get, insert, values, entries, from_entries, find, put, get-from_entries, get-insert, get-entries, entries-insert, len-entries, len-empty, len-insert, from_entries_push, same_map}
use Rattle.std.specs.FinMap as map
use Rattle.std.specs.FinMap.Entries.{by_order}
use Rattle.std.proofs.Math.Seq.{map-set_same}
use Rattle.abt_cell.specs.Channel.{Channel, channel_cmp, same_channel}
use Rattle.abt_cell.proofs.ChannelLemmas.{channel_cmp_total, channel_cmp-IsAntisymmetric, same_channel_tied, same_channel-is, same_channel-refl}
use Rattle.abt_node.specs.Table.{Connection, Table, held_at, sum_of, connection_at, with_connection}
use Rattle.abt_node.specs.declared.row.Row.{Row}
use Rattle.abt_node.specs.Rows.{connection_of, entry_of, vcs_of, row_held, connections_of, AreKept, IsPlaceOf}

-- what the first row of a connection keeps
abbrev pub found : Channel → List Row → Option Connection
found q [] = None
found q (r ∷ rows) = cond (same_channel q r.vc) (Some (connection_of r)) (found q rows)

find-found : (q : Channel) (rows : List Row) → find channel_cmp q (map entry_of rows) ≡ found q rows
find-found q [] = refl
find-found q (r ∷ rows) = λ i. cond (sym (same_channel_tied q r.vc) i) (Some (connection_of r)) (find-found q rows i)

-- what the map has at a connection
pub get-connections_of : (rows : List Row) (q : Channel) → get (connections_of rows) q ≡ found q rows
get-connections_of rows q = get-from_entries channel_cmp_total (map entry_of rows) q ∙ find-found q rows

differ : (a b : Channel) → a ≢ b → same_channel a b ≡ false
differ a b ne = elim (same_channel a b) as (λ t. same_channel a b ≡ t → t ≡ false) [ true ↦ λ e. absurd (ne (same_channel-is a b e)) | false ↦ λ e. refl ] refl

-- no row has the connection
pub found-absent : (q : Channel) (rows : List Row) → All (λ row. row.vc ≢ q) rows → found q rows ≡ None
found-absent q [] h = refl
found-absent q (r ∷ rows) h =
    ap (λ b. cond b (Some (connection_of r)) (found q rows)) (differ q r.vc (λ e. h 0 r (omega arith) (sym e)))
    ∙ found-absent q rows (λ k d lt. h (suc k) d (omega arith))

same-same : (a b : Channel) → a ≡ b → same_channel a b ≡ true
same-same a b e = subst (λ c. same_channel a c ≡ true) e (same_channel-refl a)

-- a key that differs from each differs from the one at i
apart : (q : Channel) (rows : List Row) (i : ℕ) (d : Row) → AllByRecursion (λ y. same_channel q y ≡ false) (vcs_of rows) → i < length rows → q ≢ (get_or rows i d).vc
apart q [] i d h lt = absurd (omega arith)
apart q (r ∷ rows) zero d h lt = λ e. let no : true ≡ false = sym (same-same q r.vc e) ∙ h.0 in cc
apart q (r ∷ rows) (suc i) d h lt = apart q rows i d h.1 (omega arith)

-- a row is found at its connection
pub found-at : (rows : List Row) (i : ℕ) (d : Row) → IsDistinct same_channel (vcs_of rows) → i < length rows → found (get_or rows i d).vc rows ≡ Some (connection_of (get_or rows i d))
unfolding IsDistinct
found-at [] i d h lt = absurd (omega arith)
found-at (r ∷ rows) zero d h lt = ap (λ b. cond b (Some (connection_of r)) (found r.vc rows)) (same_channel-refl r.vc)
found-at (r ∷ rows) (suc i) d h lt =
    let q = (get_or rows i d).vc in
    ap (λ b. cond b (Some (connection_of r)) (found q rows)) (differ q r.vc (λ e. apart r.vc rows i d h.0 (omega arith) (sym e)))
    ∙ found-at rows i d h.1 (omega arith)

shadowed : {A : Type 0} (b : Bool) (x y z : A) → cond b x z ≡ cond b x (cond b y z)
shadowed true x y z = refl
shadowed false x y z = refl

swapped : {A : Type 0} (a b : Bool) (x y z : A) → (a ≡ true → b ≡ true → ⊥) → cond a x (cond b y z) ≡ cond b y (cond a x z)
swapped true true x y z never = absurd (never refl refl)
swapped true false x y z never = refl
swapped false b x y z never = refl

-- another row of its connection
found-set : (rows : List Row) (i : ℕ) (row d : Row) (q : Channel) → IsDistinct same_channel (vcs_of rows) → i < length rows → row.vc ≡ (get_or rows i d).vc
    → found q (set rows i row) ≡ cond (same_channel q row.vc) (Some (connection_of row)) (found q rows)
unfolding IsDistinct
found-set [] i row d q h lt same = absurd (omega arith)
found-set (r ∷ rows) zero row d q h lt same =
    shadowed (same_channel q row.vc) _ (Some (connection_of r)) (found q rows)
    ∙ ap (λ v. cond (same_channel q row.vc) (Some (connection_of row)) (cond (same_channel q v) (Some (connection_of r)) (found q rows))) same
found-set (r ∷ rows) (suc i) row d q h lt same =
    ap (λ o. cond (same_channel q r.vc) (Some (connection_of r)) o) (found-set rows i row d q h.1 (omega arith) same)
    ∙ swapped _ _ _ _ _ (λ a b. apart r.vc rows i d h.0 (omega arith) (sym (same_channel-is q r.vc a) ∙ same_channel-is q row.vc b ∙ same))

-- another row of its connection puts its entry into the map
pub connections_of-set : (rows : List Row) (i : ℕ) (row d : Row) → IsDistinct same_channel (vcs_of rows) → i < length rows → row.vc ≡ (get_or rows i d).vc
    → connections_of (set rows i row) ≡ insert (connections_of rows) row.vc (connection_of row)
connections_of-set rows i row d h lt same =
    same_map channel_cmp_total channel_cmp-IsAntisymmetric _ _ (λ q.
    get-connections_of (set rows i row) q ∙ found-set rows i row d q h lt same
    ∙ sym (get-insert channel_cmp_total (connections_of rows) row.vc (connection_of row) q
    ∙ (λ j. cond (sym (same_channel_tied q row.vc) j) (Some (connection_of row)) (get-connections_of rows q j))))

sum_by-put : (f : Connection → ℕ) (k : Channel) (v : Connection) (es : List (Channel × Connection)) → find channel_cmp k es ≡ None
    → sum_by f (map (λ e. e.1) (put channel_cmp k v es)) ≡ f v + sum_by f (map (λ e. e.1) es)
sum_by-put f k v [] h = sum_by-cons f v []
sum_by-put f k v (e ∷ es) h =
    let xs = map (λ e. e.1) es in
    elim (channel_cmp k e.0) as (λ r. cond (is_eq r) (Some e.1) (find channel_cmp k es) ≡ None →
    sum_by f (map (λ e. e.1) (by_order r ((k, v) ∷ e ∷ es) ((e.0, v) ∷ es) (e ∷ put channel_cmp k v es))) ≡ f v + sum_by f (e.1 ∷ xs)) [
      | Less ↦ λ p. sum_by-cons f v (e.1 ∷ xs)
      | Equal ↦ λ p. absurd (cc)
      | Greater ↦ λ p. omega (arith, sum_by-cons f e.1 (map (λ e. e.1) (put channel_cmp k v es)), sum_by-put f k v es p, sum_by-cons f e.1 xs)
    ] h

none-found : (q : Channel) (rows : List Row) → AllByRecursion (λ y. same_channel q y ≡ false) (vcs_of rows) → found q rows ≡ None
none-found q [] h = refl
none-found q (r ∷ rows) h = ap (λ b. cond b (Some (connection_of r)) (found q rows)) h.0 ∙ none-found q rows h.1

nil_of_length : {A : Type 0} (xs : List A) → length xs ≡ 0 → xs ≡ []
nil_of_length [] e = refl
nil_of_length (x ∷ xs) e = absurd (omega arith)

-- what the connections of the map hold is what the rows hold
pub sum_of-connections_of : (rows : List Row) → IsDistinct same_channel (vcs_of rows) → sum_by held_at (values (connections_of rows)) ≡ sum_by row_held rows
unfolding IsDistinct
sum_of-connections_of [] h = ap (λ es. sum_by held_at (map (λ e. e.1) es)) (nil_of_length _ (sym (len-entries map.empty) ∙ len-empty channel_cmp Connection))
sum_of-connections_of (r ∷ rows) h =
    ap (λ es. sum_by held_at (map (λ e. e.1) es)) (entries-insert channel_cmp_total (connections_of rows) r.vc (connection_of r))
    ∙ sum_by-put held_at r.vc (connection_of r) (entries (connections_of rows)) (sym (get-entries (connections_of rows) r.vc) ∙ get-connections_of rows r.vc ∙ none-found r.vc rows h.0)
    ∙ ap (λ n. row_held r + n) (sum_of-connections_of rows h.1) ∙ sym (sum_by-cons row_held r rows)

-- another row of its connection, with the total moved by what it holds
pub AreKept-set : (rows : List Row) (i : ℕ) (row d : Row) (total new : ℕ) → AreKept rows total → i < length rows → row.vc ≡ (get_or rows i d).vc
    → new ≡ total - row_held (get_or rows i d) + row_held row → AreKept (set rows i row) new
AreKept-set rows i row d total new kept lt same moved =
    record {
      distinct = subst (IsDistinct same_channel) (sym (map-set_same (λ r. r.vc) rows i row d same)) kept.distinct;
      counted = omega (arith, kept.counted, moved, sum_by-set row_held rows i row d lt, get_or-le-sum_by row_held rows i d);
    }

-- no rows
pub AreKept-nil : (total : ℕ) → total ≡ 0 → AreKept [] total
unfolding IsDistinct
AreKept-nil total e = record { distinct = tt; counted = e }

-- as many connections as rows
pub len-connections_of : (rows : List Row) → IsDistinct same_channel (vcs_of rows) → map.len (connections_of rows) ≡ length rows
unfolding IsDistinct
len-connections_of [] h = len-empty channel_cmp Connection
len-connections_of (r ∷ rows) h =
    len-insert channel_cmp_total (connections_of rows) r.vc (connection_of r)
    ∙ ap (λ o. cond (is_some o) (map.len (connections_of rows)) (map.len (connections_of rows) + 1)) (get-connections_of rows r.vc ∙ none-found r.vc rows h.0)
    ∙ ap (λ n. n + 1) (len-connections_of rows h.1) ∙ omega arith

AllByRecursion-push : (P : Channel → Type 0) (xs : List Channel) (y : Channel) → AllByRecursion P xs → P y → AllByRecursion P (xs ++ y ∷ [])
AllByRecursion-push P [] y h p = (p, tt)
AllByRecursion-push P (x ∷ xs) y h p = (h.0, AllByRecursion-push P xs y h.1 p)

distinct_push : (rows : List Row) (row : Row) → IsDistinct same_channel (vcs_of rows) → All (λ r. r.vc ≢ row.vc) rows → IsDistinct same_channel (vcs_of (rows ++ row ∷ []))
unfolding IsDistinct
distinct_push [] row h new = (tt, tt)
distinct_push (r ∷ rows) row h new = (
  rw (map-append (λ r. r.vc) rows (row ∷ [])) (AllByRecursion-push _ (vcs_of rows) row.vc h.0 (differ r.vc row.vc (new 0 r (omega arith)))),
  distinct_push rows row h.1 (λ k d lt. new (suc k) d (omega arith)),
)

-- a row of a new connection, which holds nothing
pub AreKept-push : (rows : List Row) (row : Row) (total : ℕ) → AreKept rows total → All (λ r. r.vc ≢ row.vc) rows → row_held row ≡ 0 → AreKept (rows ++ row ∷ []) total
AreKept-push rows row total kept new nothing =
    record { distinct = distinct_push rows row kept.distinct new; counted = omega (arith, kept.counted, sum_by_push row_held rows row, nothing) }

-- a row of a new connection puts its entry into the map
pub connections_of-push : (rows : List Row) (row : Row) → All (λ r. r.vc ≢ row.vc) rows → connections_of (rows ++ row ∷ []) ≡ insert (connections_of rows) row.vc (connection_of row)
connections_of-push rows row new =
    ap from_entries (map-append entry_of rows (row ∷ []))
    ∙ from_entries_push channel_cmp_total channel_cmp-IsAntisymmetric (map entry_of rows) row.vc (connection_of row) (find-found row.vc rows ∙ found-absent row.vc rows new)

-- what the map has at a connection whose row was found, and at one that has none
pub get-IsPlaceOf-Some : (rows : List Row) (i : ℕ) (d : Row) (vc : Channel) → IsDistinct same_channel (vcs_of rows) → IsPlaceOf rows vc (Some i)
    → map.get (connections_of rows) vc ≡ Some (connection_of (get_or rows i d))
get-IsPlaceOf-Some rows i d vc distinct place =
    ap (map.get (connections_of rows)) (sym (place.1 d)) ∙ get-connections_of rows (get_or rows i d).vc ∙ found-at rows i d distinct place.0

pub get-IsPlaceOf-None : (rows : List Row) (vc : Channel) → IsPlaceOf rows vc None → map.get (connections_of rows) vc ≡ None
get-IsPlaceOf-None rows vc h = get-connections_of rows vc ∙ found-absent vc rows h

-- no row has a connection that is unknown
pub absent : (rows : List Row) (vc : Channel) → IsDistinct same_channel (vcs_of rows) → map.get (connections_of rows) vc ≡ None → All (λ r. r.vc ≢ vc) rows
absent rows vc distinct unknown k d lt e =
    let there : Some (connection_of (get_or rows k d)) ≡ None =
    sym (found-at rows k d distinct lt) ∙ sym (get-connections_of rows (get_or rows k d).vc) ∙ ap (map.get (connections_of rows)) e ∙ unknown in
    let bad : true ≡ false = ap is_some there in cc

-- The table of a port.
abbrev pub table_of : (id capacity : ℕ) → List Row → Table
table_of id capacity rows = record { id = id; capacity = capacity; connections = connections_of rows }

-- What is known once a connection's row was found at a place, and another row of the connection put there.
pub record IsServed (id capacity total : ℕ) (rows : List Row) (i : ℕ) (vc : Channel) (row new : Row) : Type 0 where
  pub known : connection_at (table_of id capacity rows) vc ≡ Some (connection_of row)
  pub counted : total ≡ sum_of (table_of id capacity rows)
  pub changed : table_of id capacity (set rows i new) ≡ with_connection (table_of id capacity rows) vc (connection_of new)

pub served : (id capacity total : ℕ) (rows : List Row) (i : ℕ) (vc : Channel) (row new : Row) → AreKept rows total → IsPlaceOf rows vc (Some i)
    → row ≡ get_or rows i row → new.vc ≡ row.vc → IsServed id capacity total rows i vc row new
served id capacity total rows i vc row new kept place there same =
    record {
      known = get-IsPlaceOf-Some rows i row vc kept.distinct place ∙ ap (λ r. Some (connection_of r)) (sym there);
      counted = kept.counted ∙ sym (sum_of-connections_of rows kept.distinct);
      changed = ap (λ m. record { id = id; capacity = capacity; connections = m })
          (connections_of-set rows i new row kept.distinct place.0 (same ∙ ap (λ r. r.vc) there)
          ∙ ap (λ v. map.insert (connections_of rows) v (connection_of new)) (same ∙ ap (λ r. r.vc) there ∙ place.1 row));
    }

-- another row that holds as much leaves the total
pub same_total : (rows : List Row) (i : ℕ) (d row new : Row) (total : ℕ) → AreKept rows total → row ≡ get_or rows i d → i < length rows → row_held new ≡ row_held row
    → total ≡ total - row_held (get_or rows i d) + row_held new
same_total rows i d row new total kept there lt same =
    omega (arith, kept.counted, same, ap row_held there, get_or-le-sum_by row_held rows i d)

-- a look-up that found nothing
pub is_none_of : {A : Type 0} (f : A → Connection) (o : Option A) → is_some o ≡ false → option_map f o ≡ None
is_none_of f None e = refl
is_none_of f (Some x) e = let bad : true ≡ false = e in cc
