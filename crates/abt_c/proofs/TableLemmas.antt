-- The chains of a port's table: what `last_of` tells, and that it stays where channels stay.
use Rattle.std.proofs.Common.{◌≡◌, ◌≢◌, ℕ, zero, suc, ◌+◌, ◌-◌, ◌<◌, ◌≤◌, cond, eqb, List, length, get_or, set, take, replicate, length-take-le, get_or-take, inl, inr, refl, sym, ap, subst, ◌∙◌, arith, add-one, get_or-set_other, get_or-set_same}
use Rattle.std.specs.Prelude.{sum_by, slice_index}
use Rattle.std.proofs.lemmas.Bool.{cases_eq, cases_lt, cond-true, cond-false}
use Rattle.std.proofs.lemmas.Bool.Decides.{eqb_tells}
use Rattle.std.proofs.lemmas.List.{take_more_set, get_or-replicate}
use Rattle.std.proofs.lemmas.List.Sums.{sum_by-set, sum_by_push, get_or-le-sum_by}
use Rattle.std.proofs.Math.Seq.{take-set-lt}
use Rattle.abt_cell.specs.Channel.{Channel}
use Rattle.abt_c.specs.declared.port_state.AbtConnection.{AbtConnection}
use Rattle.abt_c.specs.declared.port_state.AbtPort.{AbtPort}
use Rattle.abt_c.specs.declared.table_state.AbtTable.{AbtTable}
use Rattle.abt_c.specs.Ports.{IsConnection, IsCounted, channel_in, held_in, port_after}
use Rattle.abt_c.specs.Tables.{places, nowhere, no_connection, row_of, channel_of, chain_of, last_of, HasHead, IsUnknown, IsTable}

-- ---- what `last_of` tells

-- `at` is the last of the first n rows in a chain, or nowhere
pub record IsLast (rows : List AbtConnection) (chain n at : ℕ) : Type 0 where
  pub within : at ≢ nowhere → at < n
  pub there : at ≢ nowhere → chain_of (channel_of rows at) ≡ chain
  pub after : (i : ℕ) → i < n → (at ≢ nowhere → at < i) → chain_of (channel_of rows i) ≢ chain

is_last-more : (rows : List AbtConnection) (chain n : ℕ) → n < nowhere → IsLast rows chain n (last_of rows chain n) → IsLast rows chain (suc n) (last_of rows chain (suc n))
unfolding last_of
is_last-more rows chain n below before = elim (eqb_tells (chain_of (channel_of rows n)) chain) [
  | inl own ↦
      let now : last_of rows chain (suc n) ≡ n = cond-true _ _ _ own.0 in
      subst (IsLast rows chain (suc n)) (sym now) (record {
        within = λ some. omega arith;
        there = λ some. own.1;
        after = λ i low above. absurd (omega (arith, above (omega arith)));
      })
  | inr other ↦
      let now : last_of rows chain (suc n) ≡ last_of rows chain n = cond-false _ _ _ other.0 in
      subst (IsLast rows chain (suc n)) (sym now) (record {
        within = λ some. omega (arith, before.within some);
        there = before.there;
        after = λ i low above. elim (cases_lt i n) [
          | inl earlier ↦ before.after i earlier above
          | inr late ↦
              let here : i ≡ n = omega arith in
              subst (λ k. chain_of (channel_of rows k) ≢ chain) (sym here) other.1
        ];
      })
]

pub last_of-is : (rows : List AbtConnection) (chain n : ℕ) → n ≤ nowhere → IsLast rows chain n (last_of rows chain n)
unfolding last_of
last_of-is rows chain zero below = record {
  within = λ some. absurd (some refl);
  there = λ some. absurd (some refl);
  after = λ i low above. absurd (omega arith);
}
last_of-is rows chain (suc n) below = is_last-more rows chain n (omega arith) (last_of-is rows chain n (omega arith))

-- where the channels of the first n rows are the same, so is the last one
pub last_of-same : (xs ys : List AbtConnection) (chain n : ℕ) → ((i : ℕ) → i < n → channel_of ys i ≡ channel_of xs i) → last_of ys chain n ≡ last_of xs chain n
unfolding last_of
last_of-same xs ys chain zero same = refl
last_of-same xs ys chain (suc n) same =
    (λ i. cond (eqb (chain_of (same n (omega arith) i)) chain) n (last_of ys chain n))
    ∙ ap (cond (eqb (chain_of (channel_of xs n)) chain) n) (last_of-same xs ys chain n (λ i low. same i (omega arith)))

-- ---- a walk down a chain

-- the walk for a channel is at `at`, and none of the rows from `limit` on has the channel
pub record HasWalked (t : AbtTable) (vc : Channel) (at limit : ℕ) : Type 0 where
  pub last : at ≡ last_of t.rows (chain_of vc) limit
  pub above : (i : ℕ) → limit ≤ i → i < t.count → channel_of t.rows i ≢ vc

pub walk_begins : (t : AbtTable) (vc : Channel) (at : ℕ) → IsTable t → at ≡ slice_index t.last (chain_of vc) → chain_of vc < places → HasWalked t vc at t.count
walk_begins t vc at is read within = record {
  last = read ∙ is.last (chain_of vc) within;
  above = λ i late low. absurd (omega arith);
}

-- a row that the walk comes to is below the limit, and so in order
pub walk_below : (t : AbtTable) (vc : Channel) (at limit : ℕ) → limit ≤ places → HasWalked t vc at limit → at ≢ nowhere → at < limit
walk_below t vc at limit low walked some =
    let is : IsLast t.rows (chain_of vc) limit at = subst (IsLast t.rows (chain_of vc) limit) (sym walked.last) (last_of-is t.rows (chain_of vc) limit low) in
    is.within some

goes_on : (t : AbtTable) (vc : Channel) (at next limit : ℕ) → IsTable t → limit ≤ t.count → HasWalked t vc at limit → at ≢ nowhere → at < limit → channel_of t.rows at ≢ vc
    → next ≡ slice_index t.before at → HasWalked t vc next at
goes_on t vc at next limit is within walked some low other read =
    let last : IsLast t.rows (chain_of vc) limit at = subst (IsLast t.rows (chain_of vc) limit) (sym walked.last) (last_of-is t.rows (chain_of vc) limit (omega (arith, is.head.2))) in
    let chain : chain_of (channel_of t.rows at) ≡ chain_of vc = last.there some in
    record {
      last = read ∙ is.before at (omega arith) ∙ ap (λ c. last_of t.rows c at) chain;
      above = λ i from low_i. elim (cases_lt i limit) [
        | inl under ↦ elim (cases_eq i at) [
          | inl here ↦ subst (λ k. channel_of t.rows k ≢ vc) (sym here) other
          | inr apart ↦ λ same. last.after i under (λ _. omega arith) (ap chain_of same)
        ]
        | inr over ↦ walked.above i over low_i
      ];
    }

pub walk_goes_on : (t : AbtTable) (vc : Channel) (at row next limit : ℕ) → IsTable t → limit ≤ t.count → HasWalked t vc at limit → at ≢ nowhere → row ≡ at → row < limit → channel_of t.rows row ≢ vc
    → next ≡ slice_index t.before row → HasWalked t vc next row
walk_goes_on t vc at row next limit is within walked some e =
    subst (λ k. k < limit → channel_of t.rows k ≢ vc → next ≡ slice_index t.before k → HasWalked t vc next k) (sym e) (goes_on t vc at next limit is within walked some)

pub walk_ends : (t : AbtTable) (vc : Channel) (at limit : ℕ) → limit ≤ places → HasWalked t vc at limit → at ≡ nowhere → IsUnknown t vc
walk_ends t vc at limit low walked end i below =
    let last : IsLast t.rows (chain_of vc) limit at = subst (IsLast t.rows (chain_of vc) limit) (sym walked.last) (last_of-is t.rows (chain_of vc) limit low) in
    elim (cases_lt i limit) [
      | inl under ↦ λ same. last.after i under (λ some. absurd (some end)) (ap chain_of same)
      | inr over ↦ walked.above i over below
    ]

-- ---- a row that holds something else, and a row more

-- the table has room for all of its rows and chains
pub record HasRoom (t : AbtTable) : Type 0 where
  pub rows : length t.rows ≡ places
  pub before : length t.before ≡ places
  pub last : length t.last ≡ places

channel-set_other : (rows : List AbtConnection) (at i : ℕ) (r : AbtConnection) → i ≢ at → channel_of (set rows at r) i ≡ channel_of rows i
channel-set_other rows at i r apart = ap channel_in (get_or-set_other rows at i r no_connection apart)

pub channel-set_same : (rows : List AbtConnection) (at : ℕ) (r : AbtConnection) → at < length rows → channel_of (set rows at r) at ≡ channel_in r
channel-set_same rows at r low = ap channel_in (get_or-set_same rows at r no_connection low)

pub channels_stay : (rows : List AbtConnection) (at : ℕ) (r : AbtConnection) → at < length rows → channel_in r ≡ channel_of rows at → (i : ℕ) → channel_of (set rows at r) i ≡ channel_of rows i
channels_stay rows at r low same i = elim (cases_eq i at) [
  | inl here ↦ subst (λ k. channel_of (set rows at r) k ≡ channel_of rows k) (sym here) (channel-set_same rows at r low ∙ same)
  | inr apart ↦ channel-set_other rows at i r apart
]

-- a part of a sum changes
sum_of_parts : (total held next sum part now : ℕ) → total ≡ sum → held ≡ part → part ≤ sum → now + part ≡ sum + next → total - held + next ≡ now
sum_of_parts total held next sum part now a b c d = omega arith

sum_with : (t : AbtTable) (at : ℕ) (r : AbtConnection) → IsTable t → HasRoom t → at < t.count
    → t.port.total - held_in (row_of t.rows at) + held_in r ≡ sum_by held_in (take t.count (set t.rows at r))
sum_with t at r is room low =
    let all : length (take t.count t.rows) ≡ t.count = length-take-le t.count t.rows (omega (arith, is.head.2, room.rows)) in
    let row : get_or (take t.count t.rows) at no_connection ≡ row_of t.rows at = get_or-take t.count t.rows at no_connection low in
    let within : at < length (take t.count t.rows) = omega arith in
    let part : held_in (get_or (take t.count t.rows) at no_connection) ≤ sum_by held_in (take t.count t.rows) = get_or-le-sum_by held_in (take t.count t.rows) at no_connection within in
    let now : sum_by held_in (set (take t.count t.rows) at r) + held_in (get_or (take t.count t.rows) at no_connection) ≡ sum_by held_in (take t.count t.rows) + held_in r =
    sum_by-set held_in (take t.count t.rows) at r no_connection within in
    let held : held_in (get_or (take t.count t.rows) at no_connection) ≡ held_in (row_of t.rows at) = ap held_in row in
    let sum : t.port.total ≡ sum_by held_in (take t.count t.rows) = is.sum in
    let list : sum_by held_in (take t.count (set t.rows at r)) ≡ sum_by held_in (set (take t.count t.rows) at r) = ap (sum_by held_in) (take-set-lt t.count t.rows at r low) in
    sum_of_parts t.port.total (held_in (row_of t.rows at)) (held_in r) _ _ _ sum (sym held) part now ∙ sym list

-- a table with another row of the same channel, and the port that counts it
pub table_with : (t : AbtTable) (at : ℕ) (r : AbtConnection) (p : AbtPort) → IsTable t → HasRoom t → at < t.count → channel_in r ≡ channel_of t.rows at → IsCounted p r
    → p ≡ port_after t.port (held_in (row_of t.rows at)) (held_in r) → IsTable (record t { port = p; rows = set t.rows at r })
table_with t at r p is room low same counted after =
    let stay : (i : ℕ) → channel_of (set t.rows at r) i ≡ channel_of t.rows i = channels_stay t.rows at r (omega (arith, is.head.2, room.rows)) same in
    record {
      head = (is.head.0, counted.0, is.head.2);
      rows = λ i below. elim (cases_eq i at) [
        | inl here ↦ subst IsConnection (sym (get_or-set_same t.rows at r no_connection (omega (arith, is.head.2, room.rows))) ∙ ap (row_of (set t.rows at r)) (sym here)) counted.1
        | inr apart ↦ subst IsConnection (sym (get_or-set_other t.rows at i r no_connection apart)) (is.rows i below)
      ];
      apart = λ i j low_i low_j one. is.apart i j low_i low_j (sym (stay i) ∙ one ∙ stay j);
      last = λ chain within. is.last chain within ∙ sym (last_of-same t.rows (set t.rows at r) chain t.count (λ i _. stay i));
      before = λ i below.
          is.before i below ∙ sym (last_of-same t.rows (set t.rows at r) (chain_of (channel_of t.rows i)) i (λ k _. stay k))
          ∙ ap (λ c. last_of (set t.rows at r) (chain_of c) i) (sym (stay i));
      sum = ap (λ (q : AbtPort). q.total) after ∙ sum_with t at r is room low;
    }

-- what a row holds is a part of the sum
pub is_counted : (t : AbtTable) (i : ℕ) → IsTable t → HasRoom t → i < t.count → IsCounted t.port (row_of t.rows i)
is_counted t i is room low =
    let all : length (take t.count t.rows) ≡ t.count = length-take-le t.count t.rows (omega (arith, is.head.2, room.rows)) in
    let row : get_or (take t.count t.rows) i no_connection ≡ row_of t.rows i = get_or-take t.count t.rows i no_connection low in
    let within : i < length (take t.count t.rows) = omega arith in
    let part : held_in (get_or (take t.count t.rows) i no_connection) ≤ sum_by held_in (take t.count t.rows) = get_or-le-sum_by held_in (take t.count t.rows) i no_connection within in
    let held : held_in (get_or (take t.count t.rows) i no_connection) ≡ held_in (row_of t.rows i) = ap held_in row in
    let sum : t.port.total ≡ sum_by held_in (take t.count t.rows) = is.sum in
    (is.head.1, is.rows i low, omega arith)

-- the table once a connection has come in
abbrev pub with_row : AbtTable → AbtConnection → (chain : ℕ) → AbtTable
with_row t r chain = record t {
  count = t.count + 1;
  last = set t.last chain t.count;
  before = set t.before t.count (slice_index t.last chain);
  rows = set t.rows t.count r;
}

earlier_row : (t : AbtTable) (r : AbtConnection) (i : ℕ) → i < t.count → row_of (set t.rows t.count r) i ≡ row_of t.rows i
earlier_row t r i below = get_or-set_other t.rows t.count i r no_connection (omega arith)

earlier_last : (t : AbtTable) (r : AbtConnection) (chain n : ℕ) → n ≤ t.count → last_of (set t.rows t.count r) chain n ≡ last_of t.rows chain n
earlier_last t r chain n low = last_of-same t.rows (set t.rows t.count r) chain n (λ i below. ap channel_in (earlier_row t r i (omega arith)))

last_with_row : (t : AbtTable) (r : AbtConnection) (chain : ℕ) → IsTable t → HasRoom t → t.count < places → chain < places → chain_of (channel_in r) < places
    → slice_index (set t.last (chain_of (channel_in r)) t.count) chain ≡ last_of (set t.rows t.count r) chain (t.count + 1)
unfolding last_of
last_with_row t r chain is room free within inner = rw add-one (
    let row : channel_of (set t.rows t.count r) t.count ≡ channel_in r = channel-set_same t.rows t.count r (omega (arith, room.rows)) in
    elim (eqb_tells (chain_of (channel_of (set t.rows t.count r) t.count)) chain) [
      | inl own_row ↦
          let own : chain_of (channel_in r) ≡ chain = sym (ap chain_of row) ∙ own_row.1 in
          ap (λ k. slice_index (set t.last k t.count) chain) own ∙ get_or-set_same t.last chain t.count 0 (omega (arith, room.last)) ∙ sym (cond-true _ _ _ own_row.0)
      | inr other_row ↦
          let other : chain ≢ chain_of (channel_in r) = λ own. other_row.1 (ap chain_of row ∙ sym own) in
          get_or-set_other t.last (chain_of (channel_in r)) chain t.count 0 other ∙ is.last chain within ∙ sym (earlier_last t r chain t.count (omega arith)) ∙ sym (cond-false _ _ _ other_row.0)
    ])

own_chain : (t : AbtTable) (r : AbtConnection) → IsTable t → HasRoom t → t.count < places → chain_of (channel_in r) < places → IsConnection r → held_in r ≡ 0 → IsUnknown t (channel_in r)
    → IsTable (with_row t r (chain_of (channel_in r)))
own_chain t r is room free inner connection none unknown =
    let long : t.count < length t.rows = omega (arith, room.rows) in
    let own : channel_of (set t.rows t.count r) t.count ≡ channel_in r = channel-set_same t.rows t.count r long in
    let row : row_of (set t.rows t.count r) t.count ≡ r = get_or-set_same t.rows t.count r no_connection long in
    record {
      head = (is.head.0, is.head.1, omega arith);
      rows = λ i below. elim (cases_lt i t.count) [
        | inl earlier ↦ subst IsConnection (sym (earlier_row t r i earlier)) (is.rows i earlier)
        | inr late ↦ let here : i ≡ t.count = omega arith in subst IsConnection (sym row ∙ ap (row_of (set t.rows t.count r)) (sym here)) connection
      ];
      apart = λ i j low_i low_j one. elim (cases_lt i t.count) [
        | inl first ↦ elim (cases_lt j t.count) [
          | inl second ↦ is.apart i j first second (sym (ap channel_in (earlier_row t r i first)) ∙ one ∙ ap channel_in (earlier_row t r j second))
          | inr late ↦
              let here : j ≡ t.count = omega arith in
              absurd (unknown i first (sym (ap channel_in (earlier_row t r i first)) ∙ one ∙ ap (channel_of (set t.rows t.count r)) here ∙ own))
        ]
        | inr late ↦
            let here : i ≡ t.count = omega arith in
            elim (cases_lt j t.count) [
              | inl second ↦
                  absurd (unknown j second (sym (ap channel_in (earlier_row t r j second)) ∙ sym one ∙ ap (channel_of (set t.rows t.count r)) here ∙ own))
              | inr both ↦ omega arith
            ]
      ];
      last = λ chain within. last_with_row t r chain is room free within inner;
      before = λ i below. elim (cases_lt i t.count) [
        | inl earlier ↦
            get_or-set_other t.before t.count i (slice_index t.last (chain_of (channel_in r))) 0 (omega arith) ∙ is.before i earlier
            ∙ sym (earlier_last t r (chain_of (channel_of t.rows i)) i (omega arith))
            ∙ ap (λ c. last_of (set t.rows t.count r) (chain_of c) i) (sym (ap channel_in (earlier_row t r i earlier)))
        | inr late ↦
            let here : i ≡ t.count = omega arith in
            subst (λ k. slice_index (set t.before t.count (slice_index t.last (chain_of (channel_in r)))) k ≡ last_of (set t.rows t.count r) (chain_of (channel_of (set t.rows t.count r) k)) k) (sym here)
            (get_or-set_same t.before t.count (slice_index t.last (chain_of (channel_in r))) 0 (omega (arith, room.before)) ∙ is.last (chain_of (channel_in r)) inner
            ∙ sym (earlier_last t r (chain_of (channel_in r)) t.count (omega arith)) ∙ ap (λ c. last_of (set t.rows t.count r) (chain_of c) t.count) (sym own))
      ];
      sum =
          let list : sum_by held_in (take (t.count + 1) (set t.rows t.count r)) ≡ sum_by held_in (take t.count t.rows) + held_in r =
          ap (sum_by held_in) (take_more_set t.rows t.count r long) ∙ sum_by_push held_in (take t.count t.rows) r in
          let sum : t.port.total ≡ sum_by held_in (take t.count t.rows) = is.sum in
          omega arith;
    }

pub table_with_row : (t : AbtTable) (r : AbtConnection) (chain : ℕ) → IsTable t → HasRoom t → t.count < places → chain ≡ chain_of (channel_in r) → chain < places → IsConnection r → held_in r ≡ 0
    → IsUnknown t (channel_in r) → IsTable (with_row t r chain)
table_with_row t r chain is room free e within connection none unknown =
    subst (λ k. IsTable (with_row t r k)) (sym e) (own_chain t r is room free (omega arith) connection none unknown)

-- ---- a table with no row

pub table_begins : (t : AbtTable) → HasHead t → t.count ≡ 0 → t.port.total ≡ 0 → t.last ≡ replicate places nowhere → IsTable t
unfolding last_of
table_begins t head none empty last =
    let nothing : (i : ℕ) → i < t.count → ⊥ = λ i below. omega arith in
    record {
      head = head;
      rows = λ i below. absurd (nothing i below);
      apart = λ i j low_i low_j one. absurd (nothing i low_i);
      last = λ chain within.
          ap (λ xs. slice_index xs chain) last ∙ get_or-replicate places chain nowhere 0 within ∙ ap (last_of t.rows chain) (sym none);
      before = λ i below. absurd (nothing i below);
      sum = empty ∙ ap (λ n. sum_by held_in (take n t.rows)) (sym none);
    }
