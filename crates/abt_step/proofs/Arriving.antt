-- Cells that may arrive are those whose arrival is enabled.
use Rattle.std.proofs.Common.{◌≡◌, ◌∙◌, ℕ, zero, suc, ◌+◌, ◌-◌, ◌^◌, ◌<◌, ◌≤◌, List, [], ◌∷◌, inl, inr, refl, sym, ap, subst, arith, map, max, min}
use Rattle.std.proofs.lemmas.Bool.{cases_Bool, cases_eq, ltb-true, ltb-false, leb-true, and_parts, lt-ltb, le-ltb, le-leb}
use Rattle.std.proofs.lemmas.List.Elements.{Contains-append_cases, Contains-append_left, Contains-append_right}
use Rattle.std.proofs.lemmas.Option.{slice_get-map}
use Rattle.std.specs.Prelude.{◌↔◌, None, Some, Option, nat_le, nat_lt, option_map, slice_get}
use Rattle.std.specs.List.{Contains, enumerate_from}
use Rattle.abt_rate.specs.Limits.{delay_max, emit_max, tau_max}
use Rattle.abt_facts.specs.declared.fact.Fact.{Fact}
use Rattle.abt_facts.specs.Cells.{emitted_of, fence_of, is_in_time, last_arrival_of, moment_of}
use Rattle.abt_net.specs.declared.conn.Conn.{Conn}
use Rattle.abt_net.specs.Topology.{IsWithinRules, Topology, conn_at}
use Rattle.abt_model.specs.declared.event.Event.TheVariants.{Arrive}
use Rattle.abt_model.specs.Answers.{arrive_answer}
use Rattle.abt_model.specs.Outcomes.{outcome_of}
use Rattle.abt_model.specs.Past.{Past, facts_of}
use Rattle.abt_model.proofs.Worlds.{AllLawful, cases_option, lawful_at, outcome_of-known, outcome_of-unknown}
use Rattle.abt_model.proofs.Lawful.{route_of}
use Rattle.abt_step.specs.Possible.{CellsArePossible, IsEnabled, IsListed, if_open, possible_cells, window_of, windows_from, windows_of}
use Rattle.abt_step.specs.declared.possible.CellWindow.{CellWindow}
use Rattle.abt_model.proofs.Served.{conn_within, moment_within}

-- what an arrival needs
record MayArrive (conn : Conn) (facts : List Fact) (cell at : ℕ) : Type 0 where
  left : cell < emitted_of facts
  open_is : fence_of facts ≤ cell
  from : moment_of facts cell + conn.delay ≤ at
  to : at ≤ moment_of facts cell + conn.delay + conn.tau
  last : last_arrival_of facts ≤ at

may_of : (conn : Conn) (facts : List Fact) (cell at : ℕ) → IsEnabled (arrive_answer conn facts cell at) → MayArrive conn facts cell at
may_of conn facts cell at h = elim (cases_Bool (nat_lt cell (emitted_of facts))) [
  | inr unsent ↦ absurd (rw unsent at h)
  | inl left ↦ (let h1 = rw left at h in elim (cases_Bool (nat_lt cell (fence_of facts))) [
    | inl behind ↦ absurd (rw behind at h1)
    | inr before ↦ (let h2 = rw before at h1 in elim (cases_Bool (is_in_time conn.delay conn.tau facts cell at)) [
      | inr untimely ↦ absurd (rw untimely at h2)
      | inl timely ↦ (let h3 = rw timely at h2 in elim (cases_Bool (nat_lt at (last_arrival_of facts))) [
        | inl back ↦ absurd (rw back at h3)
        | inr after ↦ (let both = and_parts _ _ timely in record {
          left = ltb-true _ _ left;
          open_is = ltb-false _ _ before;
          from = leb-true _ _ both.0;
          to = leb-true _ _ both.1;
          last = ltb-false _ _ after;
        })
      ])
    ])
  ])
]

may_arrive : (conn : Conn) (facts : List Fact) (cell at : ℕ) → MayArrive conn facts cell at → IsEnabled (arrive_answer conn facts cell at)
may_arrive conn facts cell at may =
    rw (
      lt-ltb cell (emitted_of facts) may.left,
      le-ltb cell (fence_of facts) may.open_is,
      le-leb (moment_of facts cell + conn.delay) at may.from,
      le-leb at (moment_of facts cell + conn.delay + conn.tau) may.to,
      le-ltb at (last_arrival_of facts) may.last,
    ) tt

nowhere : {X : Type 0} (x : X) → Contains [] x → ⊥
nowhere x (k, low, is) = omega (arith, low)

alone : {X : Type 0} (y x : X) → Contains (y ∷ []) x → y ≡ x
alone y x (zero, low, is) = is
alone y x (suc k, low, is) = absurd (omega (arith, low))

opened : (window w : CellWindow) → Contains (if_open window) w → window ≡ w
opened window w has = elim (cases_Bool (nat_lt window.to window.from)) [
  | inl shut ↦ absurd (nowhere w (rw shut at has))
  | inr still ↦ alone window w (rw still at has)
]

open_one : (window : CellWindow) → window.from ≤ window.to → Contains (if_open window) window
open_one window order = rw (le-ltb window.to window.from order) (0, omega arith, refl)

-- the window of one of some cells
record IsWindow (c : ℕ) (conn : Conn) (facts : List Fact) (first count : ℕ) (window : CellWindow) : Type 0 where
  place : ℕ
  low : place < count
  is : window_of c conn (last_arrival_of facts) (first + place) (moment_of facts (first + place)) ≡ window

windows_are : (c : ℕ) (conn : Conn) (facts : List Fact) (first count : ℕ) (window : CellWindow) → Contains (windows_from c conn facts first count) window
    → IsWindow c conn facts first count window
windows_are c conn facts first zero window has = absurd (nowhere window has)
windows_are c conn facts first (suc count) window has =
    elim (Contains-append_cases (windows_from c conn facts first count) _ window has) [
      | inl before ↦ (let at = windows_are c conn facts first count window before in record { place = at.place; low = (let low = at.low in omega (arith, low)); is = at.is })
      | inr last ↦ record { place = count; low = omega arith; is = opened _ window last }
    ]

windows_have : (c : ℕ) (conn : Conn) (facts : List Fact) (first count place : ℕ) (window : CellWindow) → place < count
    → Contains (if_open (window_of c conn (last_arrival_of facts) (first + place) (moment_of facts (first + place)))) window
    → Contains (windows_from c conn facts first count) window
windows_have c conn facts first zero place window low has = absurd (omega (arith, low))
windows_have c conn facts first (suc count) place window low has = elim (cases_eq place count) [
  | inl same ↦ Contains-append_right (windows_from c conn facts first count) _ window
      (subst (λ n. Contains (if_open (window_of c conn (last_arrival_of facts) (first + n) (moment_of facts (first + n)))) window) same has)
  | inr differ ↦ Contains-append_left _ _ window (windows_have c conn facts first count place window (omega (arith, low, differ)) has)
]

numbered_at : {A : Type 0} (n : ℕ) (xs : List A) (i : ℕ) → slice_get (enumerate_from n xs) i ≡ option_map (λ (x : A). (n + i, x)) (slice_get xs i)
numbered_at n [] i = refl
numbered_at {A = A} n (x ∷ xs) zero = (let e : n ≡ n + 0 = omega arith in ap (λ k. Some (k, x)) e)
numbered_at {A = A} n (x ∷ xs) (suc i) =
    (let e : n + 1 + i ≡ n + suc i = omega arith in numbered_at (n + 1) xs i ∙ ap (λ k. option_map (λ (y : A). (k, y)) (slice_get xs i)) e)

-- the cells of a connection
abbrev row : Past → ℕ × Conn → List CellWindow
row past numbered = windows_of numbered.0 numbered.1 (facts_of numbered.0 past)

both : (past : Past) (n : ℕ) (o : Option Conn) → option_map (row past) (option_map (λ (x : Conn). (n, x)) o) ≡ option_map (λ (conn : Conn). windows_of n conn (facts_of n past)) o
both past n None = refl
both past n (Some conn) = refl

row_at : (net : Topology) (past : Past) (c : ℕ) → slice_get (possible_cells net past) c ≡ option_map (λ (conn : Conn). windows_of c conn (facts_of c past)) (conn_at net c)
row_at net past c =
    (let e : 0 + c ≡ c = omega arith in
    slice_get-map (row past) (enumerate_from 0 net.conns) c ∙ ap (option_map (row past)) (numbered_at 0 net.conns c) ∙ both past (0 + c) (conn_at net c)
    ∙ ap (λ n. option_map (λ (conn : Conn). windows_of n conn (facts_of n past)) (conn_at net c)) e)

abbrev or_else : {A : Type 0} → A → Option A → A
or_else other None = other
or_else other (Some x) = x

some_same : {A : Type 0} (a b : A) → Some a ≡ Some b → a ≡ b
some_same {A = A} a b is = ap (or_else a) is

none_some : {A : Type 0} (x : A) → None ≡ Some x → ⊥
none_some x is = cc is

-- the windows of a connection that the net has
known_row : (net : Topology) (past : Past) (c : ℕ) (conn : Conn) → conn_at net c ≡ Some conn
    → slice_get (possible_cells net past) c ≡ Some (windows_of c conn (facts_of c past))
known_row net past c conn known = row_at net past c ∙ ap (option_map (λ (k : Conn). windows_of c k (facts_of c past))) known

arrival_is : (net : Topology) (past : Past) (c cell at : ℕ) (conn : Conn) → conn_at net c ≡ Some conn
    → outcome_of net past (Arrive c cell at) ≡ arrive_answer conn (facts_of c past) cell at
arrival_is net past c cell at conn known = outcome_of-known net past (Arrive c cell at) c conn refl known

-- what is listed may arrive
listed_may : (c : ℕ) (conn : Conn) (facts : List Fact) (cell at : ℕ) (window : CellWindow) → Contains (windows_of c conn facts) window → window.cell ≡ cell
    → window.from ≤ at → at ≤ window.to → moment_of facts cell ≤ emit_max → conn.delay ≤ delay_max → conn.tau ≤ tau_max → MayArrive conn facts cell at
listed_may c conn facts cell at window has is from to early delay tau =
    let place = windows_are c conn facts (fence_of facts) (emitted_of facts - fence_of facts) window has in
    let n : fence_of facts + place.place ≡ cell = ap (λ (w : CellWindow). w.cell) place.is ∙ is in
    let low = place.low in
    let same : window_of c conn (last_arrival_of facts) cell (moment_of facts cell) ≡ window =
    ap (λ k. window_of c conn (last_arrival_of facts) k (moment_of facts k)) (sym n) ∙ place.is in
    let begins : max (min (moment_of facts cell + conn.delay) (2 ^ 64 - 1)) (last_arrival_of facts) ≤ at = subst (λ (w : CellWindow). w.from ≤ at) (sym same) from in
    let ends : at ≤ min (min (moment_of facts cell + conn.delay) (2 ^ 64 - 1) + conn.tau) (2 ^ 64 - 1) = subst (λ (w : CellWindow). at ≤ w.to) (sym same) to in
    record {
      left = omega (arith, low, n);
      open_is = omega (arith, n);
      from = omega (arith, begins, early, delay);
      to = omega (arith, ends, early, delay, tau);
      last = omega (arith, begins);
    }

-- what may arrive is listed
may_listed : (c : ℕ) (conn : Conn) (facts : List Fact) (cell at : ℕ) → MayArrive conn facts cell at → at < 2 ^ 64
    → (window : CellWindow) × Contains (windows_of c conn facts) window × (window.cell ≡ cell) × (window.from ≤ at) × (at ≤ window.to)
may_listed c conn facts cell at may within =
    let left = may.left in
    let open_is = may.open_is in
    let n : fence_of facts + (cell - fence_of facts) ≡ cell = omega (arith, open_is) in
    let window = window_of c conn (last_arrival_of facts) cell (moment_of facts cell) in
    let early = may.from in
    let late = may.to in
    let last = may.last in
    let from : max (min (moment_of facts cell + conn.delay) (2 ^ 64 - 1)) (last_arrival_of facts) ≤ at = omega (arith, early, last) in
    let to : at ≤ min (min (moment_of facts cell + conn.delay) (2 ^ 64 - 1) + conn.tau) (2 ^ 64 - 1) = omega (arith, early, late, within) in (
      window,
      windows_have c conn facts (fence_of facts) (emitted_of facts - fence_of facts) (cell - fence_of facts) window (omega (arith, left, open_is))
          (subst (λ k. Contains (if_open (window_of c conn (last_arrival_of facts) k (moment_of facts k))) window) (sym n) (open_one window (omega (arith, from, to)))),
      refl,
      from,
      to,
    )

pub cells_possible : (net : Topology) (past : Past) → IsWithinRules net → AllLawful net past → CellsArePossible net past
cells_possible net past rules lawful c cell at within = (
  λ listed. elim (cases_option (conn_at net c)) [
    | inl unknown ↦ absurd (none_some listed.windows
        (sym (row_at net past c ∙ ap (option_map (λ (k : Conn). windows_of c k (facts_of c past))) unknown) ∙ listed.of))
    | inr known ↦ (
        let conn = known.0 in
        let facts = facts_of c past in
        let rule = conn_within net rules c conn known.1 in
        let windows : listed.windows ≡ windows_of c conn facts = some_same _ _ (sym listed.of ∙ known_row net past c conn known.1) in
        subst IsEnabled (sym (arrival_is net past c cell at conn known.1)) (may_arrive conn facts cell at
        (listed_may c conn facts cell at listed.window (subst (λ ws. Contains ws listed.window) windows listed.has) listed.is listed.within.0 listed.within.1
        (moment_within (route_of conn) facts (lawful_at net past lawful c conn known.1) cell) rule.delay rule.tau)))
  ],
  λ enabled. elim (cases_option (conn_at net c)) [
    | inl unknown ↦ absurd (subst IsEnabled (outcome_of-unknown net past (Arrive c cell at) c refl unknown) enabled)
    | inr known ↦ (
        let conn = known.0 in
        let facts = facts_of c past in
        let may = may_of conn facts cell at (subst IsEnabled (arrival_is net past c cell at conn known.1) enabled) in
        let found = may_listed c conn facts cell at may within in record {
          windows = windows_of c conn facts;
          of = known_row net past c conn known.1;
          window = found.0;
          has = found.1;
          is = found.2;
          within = (found.3, found.4);
        })
  ],
)
