-- Receipts in order: at each port their places rise, and they are picked from the journal one after the other.
use Rattle.std.proofs.Common.{◌≡◌, ℕ, zero, suc, ◌+◌, ◌<◌, ◌≤◌, ◌==◌, ◌⊎◌, inl, inr, Bool, true, false, cond, List, [], ◌∷◌, ◌++◌, length, take, map, get_or, Some, refl, sym, ap, subst, ◌∙◌, arith, add-one}
use Rattle.std.specs.Prelude.{slice_get}
use Rattle.std.specs.List.{filter}
use Rattle.std.proofs.lemmas.Bool.Decides.{nat_tests}
use Rattle.std.proofs.lemmas.List.{append_assoc, take_at}
use Rattle.std.proofs.lemmas.Option.{slice_get-get_or, slice_get_within}
use Rattle.abt_journal.specs.declared.entry.Entry.{Entry}
use Rattle.abt_journal.specs.declared.entry.Receipt.{Receipt}
use Rattle.abt_journal.specs.Receipts.{Seated, seen_at, entries_at}
use Rattle.abt_journal.proofs.Seen.{seen_at_more, seen_at-push}
use Rattle.abt_journal.specs.Gathered.{journal_at, IsEntryOf, PlacesRise}
use Rattle.abt_journal.specs.Missing.{AreInOrder}

below_or_last : (j i : ℕ) → j < i + 1 → (j < i) ⊎ (j ≡ i)
below_or_last j i h = grind arith

-- Each receipt before number i is seen at its port.
abbrev SeenBefore : List Receipt → ℕ → Type 0
SeenBefore receipts i = (j : ℕ) (q : Receipt) → j < i → slice_get receipts j ≡ Some q → q.entry.place < seen_at q.port (take i receipts)

seen_one_more : (receipts : List Receipt) (i : ℕ) (d r : Receipt) → slice_get receipts i ≡ Some r → seen_at r.port (take i receipts) ≤ r.entry.place → SeenBefore receipts i
    → (j : ℕ) (q : Receipt) → j < i + 1 → slice_get receipts j ≡ Some q → q.entry.place < seen_at q.port (take (i + 1) receipts)
seen_one_more receipts i d r at after before j q below there =
    let within : i < length receipts = slice_get_within receipts i r at in
    let same : Some (get_or receipts i r) ≡ Some r = sym (slice_get-get_or receipts i r within) ∙ at in
    let item : r ≡ get_or receipts i r = cc in
    let more = seen_at_more q.port receipts i r within item in
    elim (below_or_last j i below) [
      | inl earlier ↦ (let was = before j q earlier there in seen_then (r.port == q.port) q r (seen_at q.port (take i receipts)) _ more was (λ here. subst (λ n. seen_at n (take i receipts) ≤ r.entry.place) (port_of here) after))
      | inr last ↦ (
          let one : Some q ≡ Some r = sym there ∙ ap (slice_get receipts) last ∙ at in
          let is : q ≡ r = cc in
          let own : (r.port == q.port) ≡ true = (let port : r.port ≡ q.port = ap (λ (x : Receipt). x.port) (sym is) in grind (arith, nat_tests)) in
          let seen : seen_at q.port (take (i + 1) receipts) ≡ r.entry.place + 1 = more ∙ ap (λ b. cond b (r.entry.place + 1) (seen_at q.port (take i receipts))) own in
          let place : q.entry.place ≡ r.entry.place = ap (λ (x : Receipt). x.entry.place) is in omega arith)
    ]
  where
    port_of : {m n : ℕ} → (m == n) ≡ true → m ≡ n
    port_of {m} {n} e = grind (arith, nat_tests)

    seen_then : (b : Bool) (q r : Receipt) (old new : ℕ) → new ≡ cond b (r.entry.place + 1) old → q.entry.place < old → (b ≡ true → old ≤ r.entry.place) → q.entry.place < new
    seen_then true q r old new is was after = (let h = after refl in omega arith)
    seen_then false q r old new is was after = omega arith

all_seen : (receipts : List Receipt) (i : ℕ) → ((j : ℕ) (r : Receipt) → slice_get receipts j ≡ Some r → seen_at r.port (take j receipts) ≤ r.entry.place)
    → i ≤ length receipts → (d : Receipt) → SeenBefore receipts i
all_seen receipts zero after within d = λ j q below. absurd (omega arith)
all_seen receipts (suc i) after within d =
    let at = slice_get-get_or receipts i d (omega arith) in
    let more = seen_one_more receipts i d (get_or receipts i d) at (after i (get_or receipts i d) at) (all_seen receipts i after (omega arith) d) in
    λ j q below there. subst (λ n. q.entry.place < seen_at q.port (take n receipts)) (add-one i) (more j q (omega arith) there)

-- at each port the places rise
pub places_rise : (js : List (List Entry)) (seat : Seated) → AreInOrder js seat → PlacesRise seat.receipts
places_rise js seat order = λ i j d less below same.
    let rs : List Receipt = seat.receipts in
    let first = slice_get-get_or rs i d (omega arith) in
    let second = slice_get-get_or rs j d below in
    let seen : (get_or rs i d).entry.place < seen_at (get_or rs i d).port (take j rs) =
    all_seen rs j (λ k r at. (order k r at).after) (omega arith) d i (get_or rs i d) less first in
    let after : seen_at (get_or rs j d).port (take j rs) ≤ (get_or rs j d).entry.place = (order j (get_or rs j d) second).after in
    let here : seen_at (get_or rs i d).port (take j rs) ≡ seen_at (get_or rs j d).port (take j rs) = ap (λ n. seen_at n (take j rs)) same in
    omega (arith, seen, after, here)

-- These are entries of a caller in a journal, at rising places from n on.
abbrev pub ArePicked : ℕ → List Entry → ℕ → List Entry → Type 0
ArePicked caller es n [] = Unit {0}
ArePicked caller es n (x ∷ xs) = (n ≤ x.place) × (slice_get es x.place ≡ Some x) × (x.caller ≡ caller) × ArePicked caller es (x.place + 1) xs

picked_one : (js : List (List Entry)) (caller p n : ℕ) (r : Receipt) (rs : List Receipt) (b : Bool) → (b ≡ true → r.port ≡ p) → IsEntryOf js caller r → (b ≡ true → n ≤ r.entry.place)
    → ArePicked caller (journal_at js p) (cond b (r.entry.place + 1) n) (entries_at p rs)
    → ArePicked caller (journal_at js p) n (map (λ (x : Receipt). x.entry) (cond b (r ∷ filter (λ x. x.port == p) rs) (filter (λ x. x.port == p) rs)))
picked_one js caller p n r rs true here entry after rest =
    (after refl, subst (λ q. slice_get (journal_at js q) r.entry.place ≡ Some r.entry) (here refl) entry.there, entry.own, rest)
picked_one js caller p n r rs false here entry after rest = rest

slice_get-past : {X : Type 0} (front : List X) (x : X) (rest : List X) → slice_get (front ++ x ∷ rest) (length front) ≡ Some x
slice_get-past [] x rest = refl
slice_get-past (y ∷ front) x rest = slice_get-past front x rest

picked_from : (js : List (List Entry)) (seat : Seated) (p : ℕ) (before rs : List Receipt) → seat.receipts ≡ before ++ rs → AreInOrder js seat
    → ArePicked seat.caller (journal_at js p) (seen_at p before) (entries_at p rs)
picked_from js seat p before [] split order = tt
picked_from js seat p before (r ∷ rs) split order =
    let at : slice_get seat.receipts (length before) ≡ Some r = ap (λ (x : List Receipt). slice_get x (length before)) split ∙ slice_get-past before r rs in
    let front : take (length before) seat.receipts ≡ before = ap (take (length before)) split ∙ take_at before (r ∷ rs) (length before) refl in
    let this = order (length before) r at in
    let after : seen_at r.port before ≤ r.entry.place = subst (λ (x : List Receipt). seen_at r.port x ≤ r.entry.place) front this.after in
    let rest = picked_from js seat p (before ++ r ∷ []) rs (split ∙ sym (append_assoc before (r ∷ []) rs)) order in
    picked_one js seat.caller p (seen_at p before) r rs (r.port == p) port_of this.entry
    (λ here. subst (λ n. seen_at n before ≤ r.entry.place) (port_of here) after)
    (subst (λ n. ArePicked seat.caller (journal_at js p) n (entries_at p rs)) (seen_at-push p before r) rest)
  where
    port_of : {m n : ℕ} → (m == n) ≡ true → m ≡ n
    port_of {m} {n} e = grind (arith, nat_tests)

-- a seat's receipts at a port are picked from the journal
pub picked_at : (js : List (List Entry)) (seat : Seated) (p : ℕ) → AreInOrder js seat → ArePicked seat.caller (journal_at js p) 0 (entries_at p seat.receipts)
picked_at js seat p order = picked_from js seat p [] seat.receipts refl order
