-- A row of a port's table goes: the last row comes to its place, and all rows are linked to their chains anew.
use Rattle.std.proofs.Common.{◌≡◌, ◌≢◌, ℕ, ◌+◌, ◌<◌, ◌≤◌, cond, eqb, List, length, get_or, set, take, length-take-le, get_or-take, inl, inr, refl, sym, ap, subst, ◌∙◌, arith, add-one, get_or-set_other, get_or-set_same, below_more}
use Rattle.std.specs.Prelude.{sum_by, slice_index}
use Rattle.std.proofs.lemmas.Bool.{cases_eq, cases_lt, cond-true, cond-false}
use Rattle.std.proofs.lemmas.Bool.Decides.{eqb_tells}
use Rattle.std.proofs.lemmas.List.{take_more, take-set-le}
use Rattle.std.proofs.lemmas.List.Sums.{sum_by-set, sum_by_push}
use Rattle.std.proofs.Math.Seq.{take-set-lt}
use Rattle.abt_c.specs.declared.port_state.AbtConnection.{AbtConnection}
use Rattle.abt_c.specs.declared.port_state.AbtPort.{AbtPort}
use Rattle.abt_c.specs.declared.table_state.AbtTable.{AbtTable}
use Rattle.abt_c.specs.States.{no_policer}
use Rattle.abt_c.specs.Ports.{IsPort, IsConnection, channel_in, held_in}
use Rattle.abt_c.specs.Tables.{places, no_connection, row_of, channel_of, policer_of, chain_of, last_of, IsUnknown, IsTable, KeepsOthers}

-- ---- a row more is linked

pub link_last : (rows : List AbtConnection) (last : List ℕ) (chain n : ℕ) → ((k : ℕ) → k < places → slice_index last k ≡ last_of rows k n) → length last ≡ places → chain ≡ chain_of (channel_of rows n)
    → (k : ℕ) → k < places → slice_index (set last chain n) k ≡ last_of rows k (n + 1)
unfolding last_of
link_last rows last chain n is long own k low = rw add-one (
    elim (eqb_tells (chain_of (channel_of rows n)) k) [
      | inl same ↦
          let here : chain ≡ k = own ∙ same.1 in
          ap (λ j. slice_index (set last j n) k) here ∙ get_or-set_same last k n 0 (omega arith) ∙ sym (cond-true _ _ _ same.0)
      | inr other ↦
          let apart : k ≢ chain = λ e. other.1 (sym own ∙ sym e) in
          get_or-set_other last chain k n 0 apart ∙ is k low ∙ sym (cond-false _ _ _ other.0)
    ])

pub link_before : (rows : List AbtConnection) (last before : List ℕ) (chain n : ℕ) → ((k : ℕ) → k < places → slice_index last k ≡ last_of rows k n)
    → ((i : ℕ) → i < n → slice_index before i ≡ last_of rows (chain_of (channel_of rows i)) i) → n < length before → chain ≡ chain_of (channel_of rows n) → chain < places
    → (i : ℕ) → i < n + 1 → slice_index (set before n (slice_index last chain)) i ≡ last_of rows (chain_of (channel_of rows i)) i
link_before rows last before chain n is linked room own within =
    below_more _ _
    (λ i below. let other : i ≢ n = omega arith in get_or-set_other before n i (slice_index last chain) 0 other ∙ linked i below)
    (get_or-set_same before n (slice_index last chain) 0 room ∙ is chain within ∙ ap (λ c. last_of rows c n) own)

-- ---- where a row stood before

abbrev stood : (row end i : ℕ) → ℕ
stood row end i = cond (eqb i row) end i

stood_here : (row end i : ℕ) → i ≡ row → stood row end i ≡ end
stood_here row end i here = elim (eqb_tells i row) [ inl same ↦ cond-true _ _ _ same.0 | inr other ↦ absurd (other.1 here) ]

stood_else : (row end i : ℕ) → i ≢ row → stood row end i ≡ i
stood_else row end i apart = elim (eqb_tells i row) [ inl same ↦ absurd (apart same.1) | inr other ↦ cond-false _ _ _ other.0 ]

moved_to : {X : Type 0} → (xs : List X) (d : X) (row end i : ℕ) → row < length xs → get_or (set xs row (get_or xs end d)) i d ≡ get_or xs (stood row end i) d
moved_to xs d row end i low = elim (cases_eq i row) [
  | inl here ↦ ap (λ k. get_or (set xs row (get_or xs end d)) k d) here ∙ get_or-set_same xs row (get_or xs end d) d low ∙ ap (λ k. get_or xs k d) (sym (stood_here row end i here))
  | inr apart ↦ get_or-set_other xs row i (get_or xs end d) d apart ∙ ap (λ k. get_or xs k d) (sym (stood_else row end i apart))
]

stood_within : (row end i : ℕ) → i < end → stood row end i < end + 1
stood_within row end i low = elim (cases_eq i row) [
  | inl here ↦ omega (arith, stood_here row end i here)
  | inr apart ↦ omega (arith, stood_else row end i apart)
]

stood_apart : (row end i j : ℕ) → i < end → j < end → stood row end i ≡ stood row end j → i ≡ j
stood_apart row end i j low_i low_j same = elim (cases_eq i row) [
  | inl i_here ↦ elim (cases_eq j row) [
    | inl j_here ↦ i_here ∙ sym j_here
    | inr j_apart ↦ omega (arith, stood_here row end i i_here, stood_else row end j j_apart)
  ]
  | inr i_apart ↦ elim (cases_eq j row) [
    | inl j_here ↦ omega (arith, stood_else row end i i_apart, stood_here row end j j_here)
    | inr j_apart ↦ omega (arith, stood_else row end i i_apart, stood_else row end j j_apart)
  ]
]

stood_not : (row end i : ℕ) → row ≤ end → i < end → stood row end i ≢ row
stood_not row end i below low = elim (cases_eq i row) [
  | inl here ↦ λ e. omega (arith, stood_here row end i here)
  | inr apart ↦ λ e. omega (arith, stood_else row end i apart)
]

-- ---- the sum stays, where the row held nothing

sum_without : (rows : List AbtConnection) (row end : ℕ) → row ≤ end → end < length rows → held_in (row_of rows row) ≡ 0
    → sum_by held_in (take (end + 1) rows) ≡ sum_by held_in (take end (set rows row (row_of rows end)))
sum_without rows row end below long none =
    let more : sum_by held_in (take (end + 1) rows) ≡ sum_by held_in (take end rows) + held_in (row_of rows end) =
    ap (sum_by held_in) (take_more rows end no_connection long) ∙ sum_by_push held_in (take end rows) (row_of rows end) in
    elim (cases_lt row end) [
      | inl earlier ↦
          let all : length (take end rows) ≡ end = length-take-le end rows (omega arith) in
          let within : row < length (take end rows) = omega arith in
          let changed : sum_by held_in (set (take end rows) row (row_of rows end)) + held_in (get_or (take end rows) row no_connection) ≡ sum_by held_in (take end rows) + held_in (row_of rows end) =
          sum_by-set held_in (take end rows) row (row_of rows end) no_connection within in
          let own : held_in (get_or (take end rows) row no_connection) ≡ held_in (row_of rows row) = ap held_in (get_or-take end rows row no_connection earlier) in
          let list : sum_by held_in (take end (set rows row (row_of rows end))) ≡ sum_by held_in (set (take end rows) row (row_of rows end)) = ap (sum_by held_in) (take-set-lt end rows row (row_of rows end) earlier) in
          omega arith
      | inr late ↦
          let here : row ≡ end = omega arith in
          let own : held_in (row_of rows end) ≡ 0 = ap (λ k. held_in (row_of rows k)) (sym here) ∙ none in
          let list : sum_by held_in (take end (set rows row (row_of rows end))) ≡ sum_by held_in (take end rows) = ap (sum_by held_in) (take-set-le end rows row (row_of rows end) (omega arith)) in
          omega arith
    ]

-- ---- the table without the row

-- what a table is once a row went, before any word of its chains
pub record IsWithout (t u : AbtTable) (row end : ℕ) : Type 0 where
  pub low : row < t.count
  pub next : end + 1 ≡ t.count
  pub kind : u.kind ≡ t.kind
  pub port : u.port ≡ t.port
  pub count : u.count ≡ end
  pub rows : u.rows ≡ set t.rows row (row_of t.rows end)
  pub policers : u.policers ≡ set t.policers row (policer_of t.policers end)
  pub long : length t.rows ≡ places
  pub policers_long : length t.policers ≡ places

row_now : (t u : AbtTable) (row end i : ℕ) → IsWithout t u row end → t.count ≤ places → row_of u.rows i ≡ row_of t.rows (stood row end i)
row_now t u row end i is room = ap (λ xs. row_of xs i) is.rows ∙ moved_to t.rows no_connection row end i (omega (arith, is.low, is.long))

policer_now : (t u : AbtTable) (row end i : ℕ) → IsWithout t u row end → t.count ≤ places → policer_of u.policers i ≡ policer_of t.policers (stood row end i)
policer_now t u row end i is room = ap (λ xs. policer_of xs i) is.policers ∙ moved_to t.policers no_policer row end i (omega (arith, is.low, is.policers_long))

pub table_without : (t u : AbtTable) (row end : ℕ) → IsTable t → IsWithout t u row end → held_in (row_of t.rows row) ≡ 0
    → ((chain : ℕ) → chain < places → slice_index u.last chain ≡ last_of (set t.rows row (row_of t.rows end)) chain end)
    → ((i : ℕ) → i < end → slice_index u.before i ≡ last_of (set t.rows row (row_of t.rows end)) (chain_of (channel_of (set t.rows row (row_of t.rows end)) i)) i) → IsTable u
table_without t u row end is gone none last before =
    let now : (i : ℕ) → row_of u.rows i ≡ row_of t.rows (stood row end i) = λ i. row_now t u row end i gone is.head.2 in
    let within : (i : ℕ) → i < u.count → stood row end i < t.count = λ i below. omega (arith, stood_within row end i (omega (arith, gone.count)), gone.next) in
    record {
      head = (gone.kind ∙ is.head.0, subst (λ (p : AbtPort). IsPort p) (sym gone.port) is.head.1, omega (arith, gone.count, gone.next, is.head.2));
      rows = λ i below. subst IsConnection (sym (now i)) (is.rows (stood row end i) (within i below));
      apart = λ i j low_i low_j one.
          stood_apart row end i j (omega (arith, gone.count)) (omega (arith, gone.count))
          (is.apart (stood row end i) (stood row end j) (within i low_i) (within j low_j) (sym (ap channel_in (now i)) ∙ one ∙ ap channel_in (now j)));
      last = λ chain low. last chain low ∙ ap (λ xs. last_of xs chain end) (sym gone.rows) ∙ ap (last_of u.rows chain) (sym gone.count);
      before = λ i below. before i (omega (arith, gone.count)) ∙ ap (λ xs. last_of xs (chain_of (channel_of xs i)) i) (sym gone.rows);
      sum =
          ap (λ (p : AbtPort). p.total) gone.port ∙ is.sum ∙ ap (λ n. sum_by held_in (take n t.rows)) (sym gone.next)
          ∙ sum_without t.rows row end (omega (arith, gone.low, gone.next)) (omega (arith, gone.long, gone.next, is.head.2)) none
          ∙ ap (λ n. sum_by held_in (take n (set t.rows row (row_of t.rows end)))) (sym gone.count) ∙ ap (λ xs. sum_by held_in (take u.count xs)) (sym gone.rows);
    }

pub unknown_without : (t u : AbtTable) (row end : ℕ) → IsTable t → IsWithout t u row end → IsUnknown u (channel_of t.rows row)
unknown_without t u row end is gone i below same =
    stood_not row end i (omega (arith, gone.low, gone.next)) (omega (arith, gone.count))
    (is.apart (stood row end i) row (omega (arith, stood_within row end i (omega (arith, gone.count)), gone.next)) gone.low (sym (ap channel_in (row_now t u row end i gone is.head.2)) ∙ same))

pub others_without : (t u : AbtTable) (row end : ℕ) → IsTable t → IsWithout t u row end → KeepsOthers (channel_of t.rows row) t u
others_without t u row end is gone = record {
  port = gone.port;
  count = omega (arith, gone.count, gone.next);
  kept = λ i low other.
      let apart : i ≢ row = λ here. other (ap (channel_of t.rows) here) in
      elim (cases_eq i end) [
        | inl last ↦
            let place : stood row end row ≡ i = stood_here row end row refl ∙ sym last in
            (row, omega (arith, gone.low, gone.next, gone.count), row_now t u row end row gone is.head.2 ∙ ap (row_of t.rows) place, policer_now t u row end row gone is.head.2 ∙ ap (policer_of t.policers) place)
        | inr before ↦
            let place : stood row end i ≡ i = stood_else row end i apart in
            (i, omega (arith, gone.next, gone.count), row_now t u row end i gone is.head.2 ∙ ap (row_of t.rows) place, policer_now t u row end i gone is.head.2 ∙ ap (policer_of t.policers) place)
      ];
  only = λ i low. (
    unknown_without t u row end is gone i low,
    (stood row end i, omega (arith, stood_within row end i (omega (arith, gone.count)), gone.next), sym (row_now t u row end i gone is.head.2), sym (policer_now t u row end i gone is.head.2)),
  );
}
