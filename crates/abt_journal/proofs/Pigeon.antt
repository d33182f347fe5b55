-- Where there are as many receipts as entries, the receipts are the entries.
use Rattle.std.proofs.Common.{◌≡◌, ◌≢◌, ℕ, zero, suc, ◌+◌, ◌-◌, ◌<◌, ◌≤◌, ◌==◌, ◌⊎◌, inl, inr, Bool, true, false, cond, nat_lt, List, [], ◌∷◌, length, map, All, Any, Some, None, get_or, refl, sym, ap, subst, ◌∙◌, arith}
use Rattle.std.specs.Prelude.{slice_get}
use Rattle.std.specs.List.{filter}
use Rattle.std.proofs.lemmas.Bool.Decides.{nat_tests}
use Rattle.std.proofs.lemmas.List.{nil_from_length, get_or_past}
use Rattle.std.proofs.lemmas.List.Elements.{All-cons}
use Rattle.std.proofs.lemmas.List.Sums.{sum_by-cons}
use Rattle.std.proofs.lemmas.Option.{slice_get-get_or}
use Rattle.abt_journal.specs.declared.entry.Entry.{Entry}
use Rattle.abt_journal.specs.declared.entry.Receipt.{Receipt}
use Rattle.abt_journal.specs.Receipts.{Seated, entries_at}
use Rattle.abt_journal.specs.Gathered.{journal_at, entries_in, receipts_in, entries_of, AreDistinct, CountsFit, AreGathered, AreReceipts}
use Rattle.abt_journal.specs.Missing.{AreInOrder, AllInOrder}
use Rattle.abt_journal.proofs.Rising.{ArePicked, picked_at, places_rise}
use Rattle.abt_journal.proofs.Walk.{entry_port}

-- One port and one caller

-- no more than those, and where as many, just those
abbrev pub AtMost : List Entry → List Entry → Type 0
AtMost xs ys = (length xs ≤ length ys) × (length xs ≡ length ys → xs ≡ ys)

at_most_own : (caller : ℕ) (e : Entry) (xs es : List Entry) → e.caller ≡ caller → AtMost xs (entries_of caller es) → AtMost (e ∷ xs) (entries_of caller (e ∷ es))
at_most_own caller e xs es is h = grind (arith, nat_tests)

at_most_past : (caller : ℕ) (e : Entry) (xs es : List Entry) → AtMost xs (entries_of caller es) → AtMost xs (entries_of caller (e ∷ es))
at_most_past caller e xs es h = grind (arith, nat_tests)

here_or_later : (n p : ℕ) → n ≤ p → (p ≡ n) ⊎ (n + 1 ≤ p)
here_or_later n p h = grind arith

-- `rest` is what is left of the journal es from n on
abbrev IsRest : List Entry → ℕ → List Entry → Type 0
IsRest es n rest = (k : ℕ) → slice_get rest k ≡ slice_get es (n + k)

nothing_there : (es : List Entry) (n p : ℕ) (x : Entry) → IsRest es n [] → n ≤ p → slice_get es p ≡ Some x → ⊥
nothing_there es n p x rest below is =
    let at : n + (p - n) ≡ p = omega arith in
    let none : None ≡ slice_get es p = rest (p - n) ∙ ap (slice_get es) at in cc

this_there : (es later : List Entry) (n p : ℕ) (e x : Entry) → IsRest es n (e ∷ later) → p ≡ n → slice_get es p ≡ Some x → x ≡ e
this_there es later n p e x rest same is =
    let at : n + 0 ≡ p = omega arith in
    let one : Some e ≡ slice_get es p = rest 0 ∙ ap (slice_get es) at in cc

rest_on : (es later : List Entry) (e : Entry) (n : ℕ) → IsRest es n (e ∷ later) → IsRest es (n + 1) later
rest_on es later e n rest k = let at : n + suc k ≡ n + 1 + k = omega arith in rest (suc k) ∙ ap (slice_get es) at

pub picked_at_most : (caller : ℕ) (es : List Entry) (n : ℕ) (rest xs : List Entry) → IsRest es n rest → ArePicked caller es n xs → AtMost xs (entries_of caller rest)
picked_at_most caller es n [] [] is h = (omega arith, λ _. refl)
picked_at_most caller es n [] (x ∷ xs) is h = absurd (nothing_there es n x.place x is h.0 h.1)
picked_at_most caller es n (e ∷ later) [] is h = (omega arith, λ same. sym (nil_from_length _ (sym same)))
picked_at_most caller es n (e ∷ later) (x ∷ xs) is h =
    elim (here_or_later n x.place h.0) [
      | inl here ↦
          (let same : x ≡ e = this_there es later n x.place e x is here h.1 in
          let more : ArePicked caller es (n + 1) xs = rw (← here) h.3 in
          rw (← same) (at_most_own caller x xs later h.2 (picked_at_most caller es (n + 1) later xs (rest_on es later e n is) more)))
      | inr after ↦ at_most_past caller e (x ∷ xs) later (picked_at_most caller es (n + 1) later (x ∷ xs) (rest_on es later e n is) (after, h.1, h.2, h.3))
    ]

-- One port and all callers

-- how many seats a caller has
abbrev pub times : ℕ → List Seated → ℕ
times caller [] = 0
times caller (s ∷ seats) = cond (s.caller == caller) 1 0 + times caller seats

times_none : (caller : ℕ) (seats : List Seated) → ((i : ℕ) (d : Seated) → i < length seats → (get_or seats i d).caller ≢ caller) → times caller seats ≡ 0
times_none caller [] apart = refl
times_none caller (s ∷ seats) apart =
    let rest = times_none caller seats (λ i d below. apart (suc i) d (omega arith)) in
    let other = apart 0 s (omega arith) in grind (arith, nat_tests)

times_cons : (caller : ℕ) (s : Seated) (n : ℕ) (b : Bool) → (b ≡ true → n ≡ 0) → n ≤ 1 → cond b 1 0 + n ≤ 1
times_cons caller s n true none one = (let h = none refl in omega arith)
times_cons caller s n false none one = omega arith

same_port : {m n : ℕ} → (m == n) ≡ true → m ≡ n
same_port {m} {n} e = grind (arith, nat_tests)

pub times_once : (seats : List Seated) → AreDistinct seats → (caller : ℕ) → times caller seats ≤ 1
times_once [] apart caller = omega arith
times_once (s ∷ seats) apart caller =
    times_cons caller s (times caller seats) (s.caller == caller)
    (λ own. times_none caller seats (λ i d below same. apart 0 (suc i) d (omega arith) (omega arith) (same_port own ∙ sym same)))
    (times_once seats (λ i j d less below. apart (suc i) (suc j) d (omega arith) (omega arith)) caller)

any_cons : (caller : ℕ) (s : Seated) (seats : List Seated) (b : Bool) → (b ≡ true → s.caller ≡ caller) → (1 ≤ times caller seats → Any (λ (x : Seated). x.caller ≡ caller) seats)
    → 1 ≤ cond b 1 0 + times caller seats → Any (λ (x : Seated). x.caller ≡ caller) (s ∷ seats)
any_cons caller s seats true own rest h = (0, s, omega arith, refl, own refl)
any_cons caller s seats false own rest h = (let r = rest (omega arith) in (suc r.0, r.1, omega (arith, r.2), r.3, r.4))

times_any : (caller : ℕ) (seats : List Seated) → 1 ≤ times caller seats → Any (λ (s : Seated). s.caller ≡ caller) seats
times_any caller [] h = absurd (omega arith)
times_any caller (s ∷ seats) h = any_cons caller s seats (s.caller == caller) same_port (times_any caller seats) h

-- how many entries of a journal the seats' callers have
abbrev pub owned : List Seated → List Entry → ℕ
owned [] es = 0
owned (s ∷ seats) es = length (entries_of s.caller es) + owned seats es

owned_none : (seats : List Seated) → owned seats [] ≡ 0
owned_none [] = refl
owned_none (s ∷ seats) = omega (arith, owned_none seats)

own_cons : (n : ℕ) (e : Entry) (es : List Entry) (b : Bool) → length (cond b (e ∷ es) es) ≡ cond b 1 0 + length es
own_cons n e es true = omega arith
own_cons n e es false = omega arith

flipped : (m n : ℕ) → ◌≡◌ {A = ℕ} (cond (m == n) 1 0) (cond (n == m) 1 0)
flipped m n = grind (arith, nat_tests)

owned_cons : (seats : List Seated) (e : Entry) (es : List Entry) → owned seats (e ∷ es) ≡ times e.caller seats + owned seats es
owned_cons [] e es = refl
owned_cons (s ∷ seats) e es =
    omega (arith, owned_cons seats e es, own_cons 0 e (entries_of s.caller es) (e.caller == s.caller), flipped e.caller s.caller)

-- the callers own no more entries than there are, and where as many, each has a seat
pub owned_within : (seats : List Seated) (es : List Entry) → ((caller : ℕ) → times caller seats ≤ 1)
    → (owned seats es ≤ length es) × (owned seats es ≡ length es → All (λ (e : Entry). Any (λ (s : Seated). s.caller ≡ e.caller) seats) es)
owned_within seats [] once = (omega (arith, owned_none seats), λ _ k d below. absurd (omega arith))
owned_within seats (e ∷ es) once =
    let rest = owned_within seats es once in
    let step = owned_cons seats e es in
    let one = once e.caller in (
      omega (arith, rest.0),
      λ same. All-cons (λ (x : Entry). Any (λ (s : Seated). s.caller ≡ x.caller) seats) e es (times_any e.caller seats (omega (arith, rest.0))) (rest.1 (omega (arith, rest.0))),
    )

-- how many receipts the seats have at a port
abbrev pub kept : ℕ → List Seated → ℕ
kept p [] = 0
kept p (s ∷ seats) = length (entries_at p s.receipts) + kept p seats

abbrev AreOwn : List (List Entry) → ℕ → List Seated → Type 0
AreOwn js p seats = All (λ (s : Seated). entries_at p s.receipts ≡ entries_of s.caller (journal_at js p)) seats

abbrev pub ArePickedAt : List (List Entry) → ℕ → List Seated → Type 0
ArePickedAt js p seats = (k : ℕ) (d : Seated) → k < length seats → ArePicked (get_or seats k d).caller (journal_at js p) 0 (entries_at p (get_or seats k d).receipts)

pub at_one_port : (js : List (List Entry)) (p : ℕ) (seats : List Seated) → ArePickedAt js p seats
    → (kept p seats ≤ owned seats (journal_at js p)) × (kept p seats ≡ owned seats (journal_at js p) → AreOwn js p seats)
at_one_port js p [] picked = (omega arith, λ _ k d below. absurd (omega arith))
at_one_port js p (s ∷ seats) picked =
    let es : List Entry = journal_at js p in
    let whole : IsRest (journal_at js p) 0 (journal_at js p) = λ k. ap (slice_get (journal_at js p)) (omega arith) in
    let one = picked_at_most s.caller es 0 es (entries_at p s.receipts) whole (picked 0 s (omega arith)) in
    let rest = at_one_port js p seats (λ k d below. picked (suc k) d (omega arith)) in (
      omega (arith, one.0, rest.0),
      λ same. All-cons (λ (x : Seated). entries_at p x.receipts ≡ entries_of x.caller (journal_at js p)) s seats (one.1 (omega (arith, one.0, rest.0))) (rest.1 (omega (arith, one.0, rest.0))),
    )

-- All ports

-- how many receipts stand at the ports below n
abbrev pub below_ports : ℕ → List Receipt → ℕ
below_ports zero rs = 0
below_ports (suc n) rs = below_ports n rs + length (entries_at n rs)

at_cons : (r : Receipt) (rs : List Receipt) (b : Bool) → length (map (λ (x : Receipt). x.entry) (cond b (r ∷ rs) rs)) ≡ cond b 1 0 + length (map (λ (x : Receipt). x.entry) rs)
at_cons r rs true = omega arith
at_cons r rs false = omega arith

lower_more : (p n : ℕ) → cond (nat_lt p (suc n)) 1 0 ≡ cond (nat_lt p n) 1 0 + cond (p == n) 1 0
lower_more p n = grind (arith, nat_tests)

not_below_zero : (p : ℕ) → ◌≡◌ {A = ℕ} (cond (nat_lt p 0) 1 0) 0
not_below_zero p = grind (arith, nat_tests)

below_ports-cons : (n : ℕ) (r : Receipt) (rs : List Receipt) → below_ports n (r ∷ rs) ≡ below_ports n rs + cond (nat_lt r.port n) 1 0
below_ports-cons zero r rs = omega (arith, not_below_zero r.port)
below_ports-cons (suc n) r rs =
    omega (arith, below_ports-cons n r rs, at_cons r (filter (λ (x : Receipt). x.port == n) rs) (r.port == n), lower_more r.port n)

below_ports-nil : (n : ℕ) → below_ports n [] ≡ 0
below_ports-nil zero = refl
below_ports-nil (suc n) = omega (arith, below_ports-nil n)

is_lower : (p n : ℕ) → p < n → ◌≡◌ {A = ℕ} (cond (nat_lt p n) 1 0) 1
is_lower p n below = grind (arith, nat_tests)

below_ports-all : (n : ℕ) (rs : List Receipt) → All (λ (r : Receipt). r.port < n) rs → below_ports n rs ≡ length rs
below_ports-all n [] all = below_ports-nil n
below_ports-all n (r ∷ rs) all =
    omega (arith, below_ports-all n rs (λ k d below. all (suc k) d (omega arith)), below_ports-cons n r rs, is_lower r.port n (all 0 r (omega arith)))

-- how many receipts of all seats stand there
abbrev kept_below : ℕ → List Seated → ℕ
kept_below n [] = 0
kept_below n (s ∷ seats) = below_ports n s.receipts + kept_below n seats

kept_below-zero : (seats : List Seated) → kept_below 0 seats ≡ 0
kept_below-zero [] = refl
kept_below-zero (s ∷ seats) = omega (arith, kept_below-zero seats)

kept_below-suc : (n : ℕ) (seats : List Seated) → kept_below (suc n) seats ≡ kept_below n seats + kept n seats
kept_below-suc n [] = refl
kept_below-suc n (s ∷ seats) = omega (arith, kept_below-suc n seats)

kept_below-all : (n : ℕ) (seats : List Seated) → All (λ (s : Seated). All (λ (r : Receipt). r.port < n) s.receipts) seats → kept_below n seats ≡ receipts_in seats
kept_below-all n [] all = refl
kept_below-all n (s ∷ seats) all =
    omega (
      arith,
      kept_below-all n seats (λ k d below. all (suc k) d (omega arith)),
      below_ports-all n s.receipts (all 0 s (omega arith)),
      sum_by-cons (λ (x : Seated). length x.receipts) s seats,
    )

-- how many entries stand in the journals below n
abbrev entries_below : List (List Entry) → ℕ → ℕ
entries_below js zero = 0
entries_below js (suc n) = entries_below js n + length (journal_at js n)

entries_below-cons : (j : List Entry) (js : List (List Entry)) (n : ℕ) → entries_below (j ∷ js) (suc n) ≡ length j + entries_below js n
entries_below-cons j js zero = omega arith
entries_below-cons j js (suc n) = omega (arith, entries_below-cons j js n)

entries_below-all : (js : List (List Entry)) → entries_below js (length js) ≡ entries_in js
entries_below-all [] = refl
entries_below-all (j ∷ js) = entries_below-cons j js (length js) ∙ omega (arith, entries_below-all js, sum_by-cons (λ (es : List Entry). length es) j js)

-- At a port the receipts are the entries.
abbrev AreAt : List (List Entry) → List Seated → ℕ → Type 0
AreAt js seats p = AreOwn js p seats × All (λ (e : Entry). Any (λ (s : Seated). s.caller ≡ e.caller) seats) (journal_at js p)

last_or_lower : (n p : ℕ) → p < suc n → (p ≡ n) ⊎ (p < n)
last_or_lower n p h = grind arith

up_to_port : (js : List (List Entry)) (seats : List Seated) → ((p : ℕ) → ArePickedAt js p seats) → ((caller : ℕ) → times caller seats ≤ 1) → (n : ℕ)
    → (kept_below n seats ≤ entries_below js n) × (kept_below n seats ≡ entries_below js n → (p : ℕ) → p < n → AreAt js seats p)
up_to_port js seats picked once zero = (omega (arith, kept_below-zero seats), λ _ p below. absurd (omega arith))
up_to_port js seats picked once (suc n) =
    let before = up_to_port js seats picked once n in
    let here = at_one_port js n seats (picked n) in
    let within = owned_within seats (journal_at js n) once in
    let more = kept_below-suc n seats in (
      omega (arith, before.0, here.0, within.0),
      λ same p below.
          elim (last_or_lower n p below) [
            | inl last ↦ subst (AreAt js seats) (sym last) (here.1 (omega (arith, before.0, here.0, within.0)), within.1 (omega (arith, before.0, here.0, within.0)))
            | inr lower ↦ before.1 (omega (arith, before.0, here.0, within.0)) p lower
          ],
    )

below_or_past : (m n : ℕ) → (m < n) ⊎ (n ≤ m)
below_or_past m n = grind arith

-- past the last port there is no journal, and so no receipt
past_ports : (js : List (List Entry)) (seats : List Seated) (p : ℕ) → ArePickedAt js p seats → length js ≤ p → AreAt js seats p
past_ports js seats p picked past =
    let none : journal_at js p ≡ [] = get_or_past js p [] past in (
      λ k d below.
          (let whole : IsRest (journal_at js p) 0 (journal_at js p) = λ i. ap (slice_get (journal_at js p)) (omega arith) in
          let s : Seated = get_or seats k d in
          let most = picked_at_most s.caller (journal_at js p) 0 (journal_at js p) (entries_at p s.receipts) whole (picked k d below) in
          let empty : length (entries_of (get_or seats k d).caller (journal_at js p)) ≡ 0 = ap (λ (es : List Entry). length (entries_of (get_or seats k d).caller es)) none in
          most.1 (omega (arith, most.0, empty))),
      λ k d below. absurd (omega (arith, ap length none)),
    )

-- What the walk along all receipts found makes the receipts the entries.

seat_at : (js : List (List Entry)) (seats : List Seated) → AllInOrder js seats → (k : ℕ) (d : Seated) → k < length seats → AreInOrder js (get_or seats k d)
seat_at js seats order k d below = order k (get_or seats k d) (slice_get-get_or seats k d below)

pub gathered : (js : List (List Entry)) (seats : List Seated) → CountsFit js seats → AllInOrder js seats → AreGathered js seats
gathered js seats fit order = record {
  entries = λ k d below i r within. (seat_at js seats order k d below i (get_or (get_or seats k d).receipts i r) (slice_get-get_or (get_or seats k d).receipts i r within)).entry;
  rise = λ k d below. places_rise js (get_or seats k d) (seat_at js seats order k d below);
  counts = fit.counts;
  callers = fit.callers;
}

pub are_receipts : (js : List (List Entry)) (seats : List Seated) → CountsFit js seats → AllInOrder js seats → AreReceipts js seats
are_receipts js seats fit order =
    let picked : (p : ℕ) → ArePickedAt js p seats = λ p k d below. picked_at js (get_or seats k d) p (seat_at js seats order k d below) in
    let once = times_once seats fit.callers in
    let all = gathered js seats fit order in
    let ports : All (λ (s : Seated). All (λ (r : Receipt). r.port < length js) s.receipts) seats =
    λ k d below i r within. entry_port js _ (get_or (get_or seats k d).receipts i r) (all.entries k d below i r within) in
    let same : kept_below (length js) seats ≡ entries_below js (length js) =
    kept_below-all (length js) seats ports ∙ fit.counts ∙ sym (entries_below-all js) in
    let at : (p : ℕ) → AreAt js seats p = λ p. elim (below_or_past p (length js)) [
      | inl below ↦ (up_to_port js seats picked once (length js)).1 same p below
      | inr past ↦ past_ports js seats p (picked p) past
    ] in record {
      same = λ p. (at p).0;
      known = λ p. (at p).1;
      callers = fit.callers;
    }
