-- The walk along the receipts of a seat.
use Rattle.std.proofs.Common.{◌≡◌, ℕ, ◌+◌, ◌<◌, ◌≤◌, ◌==◌, ◌⊎◌, inl, inr, cond, List, [], length, take, get_or, set, true, false, Option, Some, None, is_some, slice_index, refl, sym, ap, subst, ◌∙◌, arith}
use Rattle.std.specs.Prelude.{slice_get, slice_set, IfNone}
use Rattle.std.proofs.lemmas.Bool.Decides.{nat_tests}
use Rattle.std.proofs.lemmas.List.{get_or-set_same, get_or-set_other, get_or_past, length-set}
use Rattle.std.proofs.lemmas.Option.{slice_get_read, none-some, same_Some}
use Rattle.abt_journal.specs.declared.entry.Entry.{Entry}
use Rattle.abt_journal.specs.declared.entry.Receipt.{Receipt}
use Rattle.abt_journal.specs.Receipts.{Seated, seen_at}
use Rattle.abt_journal.proofs.Seen.{seen_at_more}
use Rattle.abt_journal.specs.Gathered.{journal_at, IsEntryOf}
use Rattle.abt_journal.specs.Missing.{IsInOrder, IsFirstMissingIn}

below_or_past : (m n : ℕ) → (m < n) ⊎ (n ≤ m)
below_or_past m n = grind arith

below_or_last : (j i : ℕ) → j < i + 1 → (j < i) ⊎ (j ≡ i)
below_or_last j i h = grind arith

-- an entry's port has a journal
pub entry_port : (js : List (List Entry)) (caller : ℕ) (r : Receipt) → IsEntryOf js caller r → r.port < length js
entry_port js caller r is = elim (below_or_past r.port (length js)) [
  | inl below ↦ below
  | inr past ↦ (
      let none : journal_at js r.port ≡ [] = get_or_past js r.port [] past in
      absurd (none-some r.entry (sym (ap (λ (es : List Entry). slice_get es r.entry.place) none) ∙ is.there)))
]

-- What is known as far as receipt number i.
pub record IsWalked (js : List (List Entry)) (seat : Seated) (i : ℕ) (seen : List ℕ) : Type 0 where
  pub len : length seen ≡ length js
  pub seen_is : (p : ℕ) → p < length seen → slice_index seen p ≡ seen_at p (take i seat.receipts)
  pub in_order : (j : ℕ) (q : Receipt) → j < i → slice_get seat.receipts j ≡ Some q → IsInOrder js seat j q

-- receipt number i, and whether it is its caller's entry past what was seen
pub record IsTurn (seat : Seated) (items : List Receipt) (i : ℕ) (r : Receipt) (caller : ℕ) : Type 0 where
  pub caller_is : caller ≡ seat.caller
  pub items_are : items ≡ seat.receipts
  pub below : i < length items
  pub item : r ≡ get_or items i r

abbrev pub Passes : List (List Entry) → ℕ → List ℕ → Receipt → Type 0
Passes js caller seen r = IsEntryOf js caller r × (slice_index seen r.port ≤ r.entry.place)

there : (seat : Seated) (items : List Receipt) (i : ℕ) (r : Receipt) (caller : ℕ) → IsTurn seat items i r caller → slice_get seat.receipts i ≡ Some r
there seat items i r caller turn =
    ap (λ (rs : List Receipt). slice_get rs i) (sym turn.items_are) ∙ slice_get_read items (length items) i r refl turn.below turn.item

passes_in_order : (js : List (List Entry)) (seat : Seated) (items : List Receipt) (i : ℕ) (r : Receipt) (caller : ℕ) (seen : List ℕ) → IsWalked js seat i seen → IsTurn seat items i r caller
    → Passes js caller seen r → IsInOrder js seat i r
passes_in_order js seat items i r caller seen walked turn passes =
    let entry : IsEntryOf js seat.caller r = subst (λ n. IsEntryOf js n r) turn.caller_is passes.0 in
    let at : slice_index seen r.port ≡ seen_at r.port (take i seat.receipts) = walked.seen_is r.port (omega (arith, entry_port js caller r passes.0, walked.len)) in
    record { entry = entry; after = subst (λ n. n ≤ r.entry.place) at passes.1 }

in_order_passes : (js : List (List Entry)) (seat : Seated) (items : List Receipt) (i : ℕ) (r : Receipt) (caller : ℕ) (seen : List ℕ) → IsWalked js seat i seen → IsTurn seat items i r caller
    → IsInOrder js seat i r → Passes js caller seen r
in_order_passes js seat items i r caller seen walked turn order =
    let entry : IsEntryOf js caller r = subst (λ n. IsEntryOf js n r) (sym turn.caller_is) order.entry in
    let at : slice_index seen r.port ≡ seen_at r.port (take i seat.receipts) = walked.seen_is r.port (omega (arith, entry_port js caller r entry, walked.len)) in
    (entry, subst (λ n. n ≤ r.entry.place) (sym at) order.after)

-- the walk stops at the first receipt that isn't in order
pub walk_stops : (js : List (List Entry)) (seat : Seated) (items : List Receipt) (i : ℕ) (r : Receipt) (caller : ℕ) (seen : List ℕ) → IsWalked js seat i seen → IsTurn seat items i r caller
    → ¬ Passes js caller seen r → IsFirstMissingIn js seat i r
walk_stops js seat items i r caller seen walked turn fails = record {
  receipt = there seat items i r caller turn;
  missing = λ order. fails (in_order_passes js seat items i r caller seen walked turn order);
  none_before = walked.in_order;
}

set_cases : (old : List ℕ) (q p v : ℕ) → q < length old → get_or (set old q v) p 0 ≡ cond (q == p) v (get_or old p 0)
set_cases old q p v below = grind (arith, nat_tests, get_or-set_same {A = ℕ}, get_or-set_other {A = ℕ})

seen_then : (seat : Seated) (items : List Receipt) (i : ℕ) (r : Receipt) (caller : ℕ) (old new : List ℕ) → IsTurn seat items i r caller → r.port < length old
    → new ≡ slice_set old r.port (r.entry.place + 1) → ((p : ℕ) → p < length old → slice_index old p ≡ seen_at p (take i seat.receipts))
    → (p : ℕ) → p < length new → slice_index new p ≡ seen_at p (take (i + 1) seat.receipts)
seen_then seat items i r caller old new turn within is was p below =
    let inside : i < length seat.receipts = omega (arith, ap length turn.items_are, turn.below) in
    let item : r ≡ get_or seat.receipts i r = turn.item ∙ ap (λ (rs : List Receipt). get_or rs i r) turn.items_are in
    let long : length new ≡ length old = ap length is ∙ length-set old r.port (r.entry.place + 1) in
    let before = was p (omega arith) in
    ap (λ (l : List ℕ). get_or l p 0) is ∙ set_cases old r.port p (r.entry.place + 1) within
    ∙ ap (λ (n : ℕ). cond (r.port == p) (r.entry.place + 1) n) before
    ∙ sym (seen_at_more p seat.receipts i r inside item)

order_more : (js : List (List Entry)) (seat : Seated) (i : ℕ) (r : Receipt) → slice_get seat.receipts i ≡ Some r → IsInOrder js seat i r
    → ((j : ℕ) (q : Receipt) → j < i → slice_get seat.receipts j ≡ Some q → IsInOrder js seat j q)
    → (j : ℕ) (q : Receipt) → j < i + 1 → slice_get seat.receipts j ≡ Some q → IsInOrder js seat j q
order_more js seat i r at order was j q below here = elim (below_or_last j i below) [
  | inl earlier ↦ was j q earlier here
  | inr last ↦ (
      let same : q ≡ r = (let one : Some q ≡ Some r = sym here ∙ ap (slice_get seat.receipts) last ∙ at in cc) in
      subst (λ (n : ℕ). IsInOrder js seat n q) (sym last) (subst (λ (x : Receipt). IsInOrder js seat i x) (sym same) order))
]

-- the walk goes on past a receipt that is in order
pub walk_goes : (js : List (List Entry)) (seat : Seated) (items : List Receipt) (i : ℕ) (r : Receipt) (caller : ℕ) (old new : List ℕ) → IsWalked js seat i old → IsTurn seat items i r caller
    → Passes js caller old r → (r.port < length old) × (new ≡ slice_set old r.port (r.entry.place + 1)) → IsWalked js seat (i + 1) new
walk_goes js seat items i r caller old new walked turn passes seen = record {
  len = ap length seen.1 ∙ length-set old r.port (r.entry.place + 1) ∙ walked.len;
  seen_is = seen_then seat items i r caller old new turn seen.0 seen.1 walked.seen_is;
  in_order = order_more js seat i r (there seat items i r caller turn) (passes_in_order js seat items i r caller old walked turn passes) walked.in_order;
}

-- before the first receipt nothing was seen
pub walk_begins : (js : List (List Entry)) (seat : Seated) (seen : List ℕ) → length seen ≡ length js → ((p : ℕ) → p < length seen → slice_index seen p ≡ 0) → IsWalked js seat 0 seen
walk_begins js seat seen len none = record { len = len; seen_is = none; in_order = λ j q below. absurd (omega arith) }

-- what is said where nothing was found
pub if_none : {A P : Type 0} (o : Option A) → is_some o ≡ false → IfNone o P → P
if_none None e h = h
if_none (Some x) e h = let bad : true ≡ false = e in absurd (cc)

-- one element more
pub all_more : {X : Type 0} (P : X → Type 0) (xs : List X) (i : ℕ) (x : X) → slice_get xs i ≡ Some x → P x → ((k : ℕ) (y : X) → k < i → slice_get xs k ≡ Some y → P y)
    → (k : ℕ) (y : X) → k < i + 1 → slice_get xs k ≡ Some y → P y
all_more P xs i x at here was k y below there = elim (below_or_last k i below) [
  | inl earlier ↦ was k y earlier there
  | inr last ↦ (
      let one : Some y ≡ Some x = sym there ∙ ap (slice_get xs) last ∙ at in
      subst P (sym (same_Some y x one)) here)
]

pub none_found : {A P : Type 0} (o : Option A) → o ≡ None → IfNone o P → P
none_found None e h = h
none_found (Some x) e h = absurd (cc)
