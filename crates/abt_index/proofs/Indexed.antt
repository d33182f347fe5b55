-- What the index of facts tells is what the facts tell.
use Rattle.std.proofs.Common.{◌≡◌, ◌≢◌, ℕ, ◌^◌, Bool, true, false, List, [], ◌∷◌, inl, inr, refl, sym, ap, ◌∙◌, max, length, arith}
use Rattle.std.specs.Prelude.{◌==◌, ◌||◌, ◌&&◌, nat_eq, Option, None, Some, unwrap_or, if◌then◌else◌, nat_lt, nat_le}
use Rattle.std.specs.Option.{option_map_or}
use Rattle.std.specs.List.{list_all}
use Rattle.std.specs.Map.{lookup}
use Rattle.std.specs.Int.{bit_at}
use Rattle.std.proofs.lemmas.Nat.Bits.{bit_at_or, bit_at-pow_same, bit_at-pow_other, bit_at-lt, bit_at-zero}
use Rattle.std.proofs.lemmas.Bool.{cond-true, cond-false, cases_Bool, eqb-true, eqb-false, eq-eqb, ne_eqb}
use Rattle.std.proofs.lemmas.Bool.Decides.{nat_tests}
use Rattle.indexmap.specs.IndexMap.{insert_entry}
use Rattle.abt_facts.specs.declared.fact.Fact.{Fact}
use Rattle.abt_facts.specs.declared.fact.Fact.TheVariants.{Asked, Emitted, Delivered, Passed, Shut, Turned, Back, Arrived}
use Rattle.abt_facts.specs.Requests.{was_asked, floor_of, ask_of, mark_of}
use Rattle.abt_facts.specs.Sent.{was_passed, was_shut, was_turned, was_back}
use Rattle.abt_facts.specs.Cells.{moment_of, after_last_of, last_arrival_of, delivered_mark_of, emitted_of}
use Rattle.abt_index.specs.Kept.{asked_in, conforms_if_arrived}
use Rattle.abt_index.specs.declared.message.Message.{Message}
use Rattle.abt_index.specs.Hops.{none, with_hop, has_hop}
use Rattle.abt_index.specs.declared.hops.Hops.{Hops}
use Rattle.abt_index.specs.Index.{message_in, moment_in, blank, changed, with_change, index_of}

-- one of two messages, by whether a number is the one that changed
by_number : (messages : List (ℕ × Message)) (seq s : ℕ) (message : Message) →
    message_in (insert_entry nat_eq messages seq message) s ≡ (if s == seq then message else message_in messages s)
by_number [] seq s message = elim (cases_Bool (s == seq)) [
  | inl e ↦ ap (λ b. unwrap_or (if b then Some message else None) blank) e ∙ sym (cond-true _ _ _ e)
  | inr e ↦ ap (λ b. unwrap_or (if b then Some message else None) blank) e ∙ sym (cond-false _ _ _ e)
]
by_number (entry ∷ messages) seq s message = elim (cases_Bool (seq == entry.0)) [
  | inl mine ↦ elim (cases_Bool (s == seq)) [
    | inl e ↦ (
        let here : s ≡ entry.0 = eqb-true s seq e ∙ eqb-true seq entry.0 mine in
        ap (λ b. message_in (if b then (entry.0, message) ∷ messages else entry ∷ insert_entry nat_eq messages seq message) s) mine
        ∙ ap (λ b. unwrap_or (if b then Some message else lookup (nat_eq s) messages) blank) (eq-eqb s entry.0 here) ∙ sym (cond-true _ _ _ e))
    | inr e ↦ (
        let there : s ≢ entry.0 = λ same. eqb-false s seq e (same ∙ sym (eqb-true seq entry.0 mine)) in
        ap (λ b. message_in (if b then (entry.0, message) ∷ messages else entry ∷ insert_entry nat_eq messages seq message) s) mine
        ∙ ap (λ b. unwrap_or (if b then Some message else lookup (nat_eq s) messages) blank) (ne_eqb s entry.0 there)
        ∙ sym (ap (λ b. unwrap_or (if b then Some entry.1 else lookup (nat_eq s) messages) blank) (ne_eqb s entry.0 there)) ∙ sym (cond-false _ _ _ e))
  ]
  | inr other ↦ (
      let rest = by_number messages seq s message in
      ap (λ b. message_in (if b then (entry.0, message) ∷ messages else entry ∷ insert_entry nat_eq messages seq message) s) other
      ∙ elim (cases_Bool (s == entry.0)) [
        | inl e ↦ (
            let apart : s ≢ seq = λ same. eqb-false seq entry.0 other (sym same ∙ eqb-true s entry.0 e) in
            ap (λ b. unwrap_or (if b then Some entry.1 else lookup (nat_eq s) (insert_entry nat_eq messages seq message)) blank) e
            ∙ sym (ap (λ b. unwrap_or (if b then Some entry.1 else lookup (nat_eq s) messages) blank) e) ∙ sym (cond-false _ _ _ (ne_eqb s seq apart)))
        | inr e ↦ (
            ap (λ b. unwrap_or (if b then Some entry.1 else lookup (nat_eq s) (insert_entry nat_eq messages seq message)) blank) e
            ∙ rest ∙ ap (λ m. if s == seq then message else m) (sym (ap (λ b. unwrap_or (if b then Some entry.1 else lookup (nat_eq s) messages) blank) e)))
      ])
]

module _ {A : Type 0} (tells : Message → A) (messages : List (ℕ × Message)) (change : Message → Message) (seq s : ℕ) where
  -- what a change leaves is left of each message
  pub left_by : ((message : Message) → tells (change message) ≡ tells message) → tells (message_in (with_change change seq messages) s) ≡ tells (message_in messages s)
  left_by same = ap tells (by_number messages seq s (change (message_in messages seq))) ∙ elim (cases_Bool (s == seq)) [
    | inl e ↦ ap tells (cond-true (s == seq) _ _ e) ∙ same (message_in messages seq) ∙ ap (λ n. tells (message_in messages n)) (sym (eqb-true s seq e))
    | inr e ↦ ap tells (cond-false (s == seq) _ _ e)
  ]

  -- what it changes is changed of that one
  pub changed_by : (value : A) → (s ≡ seq → tells (change (message_in messages s)) ≡ value) → (s ≢ seq → tells (message_in messages s) ≡ value) →
      tells (message_in (with_change change seq messages) s) ≡ value
  changed_by value one others = ap tells (by_number messages seq s (change (message_in messages seq))) ∙ elim (cases_Bool (s == seq)) [
    | inl e ↦ ap tells (cond-true (s == seq) _ _ e) ∙ ap (λ n. tells (change (message_in messages n))) (sym (eqb-true s seq e)) ∙ one (eqb-true s seq e)
    | inr e ↦ ap tells (cond-false (s == seq) _ _ e) ∙ others (eqb-false s seq e)
  ]

and_comm : (a b : Bool) → (a && b) ≡ (b && a)
and_comm true true = refl
and_comm true false = refl
and_comm false true = refl
and_comm false false = refl

-- a hop is in a set with one more if it is that one, or was there
hop_with : (hops : Hops) (i j : ℕ) → has_hop (with_hop hops i) j ≡ ((i == j) || has_hop hops j)
hop_with hops i j = elim (cases_Bool (i == j)) [
  | inl e ↦ (
      let same : i ≡ j = eqb-true i j e in
      let bit : bit_at (2 ^ i) j ≡ 1 = ap (bit_at (2 ^ i)) (sym same) ∙ bit_at-pow_same i in
      let low = bit_at-lt hops.bits j in
      let one : max (bit_at hops.bits j) 1 ≡ 1 = omega arith in
      eq-eqb _ 1 (bit_at_or hops.bits (2 ^ i) j ∙ ap (max (bit_at hops.bits j)) bit ∙ one) ∙ sym (ap (λ b. b || has_hop hops j) e))
  | inr e ↦ (
      let bit : bit_at (2 ^ i) j ≡ 0 = bit_at-pow_other i j (λ same. eqb-false i j e (sym same)) in
      let none : max (bit_at hops.bits j) 0 ≡ bit_at hops.bits j = omega arith in
      ap (λ n. n == 1) (bit_at_or hops.bits (2 ^ i) j ∙ ap (max (bit_at hops.bits j)) bit ∙ none) ∙ sym (ap (λ b. b || has_hop hops j) e))
]

-- a test of the newest fact, which is of this number
of_this : (seq s i j : ℕ) (b : Bool) → s ≡ seq → ((i == j) || b) ≡ ((seq == s && i == j) || b)
of_this seq s i j b e = sym (ap (λ same. (same && i == j) || b) (eq-eqb seq s (sym e)))

-- or of another
of_another : (seq s i j : ℕ) (b : Bool) → s ≢ seq → b ≡ ((seq == s && i == j) || b)
of_another seq s i j b e = sym (ap (λ same. (same && i == j) || b) (ne_eqb seq s (λ same. e (sym same))))

none_has : (j : ℕ) → has_hop none j ≡ false
none_has j = ap (λ n. n == 1) (bit_at-zero j)

-- the hops that passed a number
pub passed_is : (facts : List Fact) (s j : ℕ) → has_hop (message_in (index_of facts).messages s).passed j ≡ was_passed facts s j
passed_is [] s j = none_has j
passed_is (Asked seq floor ask mark ∷ facts) s j = left_by (λ m. has_hop m.passed j) (index_of facts).messages (changed (Asked seq floor ask mark)) seq s (λ m. refl) ∙ passed_is facts s j
passed_is (Delivered seq ∷ facts) s j = left_by (λ m. has_hop m.passed j) (index_of facts).messages (changed (Delivered seq)) seq s (λ m. refl) ∙ passed_is facts s j
passed_is (Passed seq hop ∷ facts) s j =
    changed_by (λ m. has_hop m.passed j) (index_of facts).messages (changed (Passed seq hop)) seq s _
    (λ e. hop_with (message_in (index_of facts).messages s).passed hop j ∙ of_this seq s hop j _ e ∙ ap (λ b. (seq == s && hop == j) || b) (passed_is facts s j))
    (λ e. of_another seq s hop j _ e ∙ ap (λ b. (seq == s && hop == j) || b) (passed_is facts s j))
passed_is (Shut seq hop ∷ facts) s j = left_by (λ m. has_hop m.passed j) (index_of facts).messages (changed (Shut seq hop)) seq s (λ m. refl) ∙ passed_is facts s j
passed_is (Turned seq ∷ facts) s j = left_by (λ m. has_hop m.passed j) (index_of facts).messages (changed (Turned seq)) seq s (λ m. refl) ∙ passed_is facts s j
passed_is (Back seq hop ∷ facts) s j = left_by (λ m. has_hop m.passed j) (index_of facts).messages (changed (Back seq hop)) seq s (λ m. refl) ∙ passed_is facts s j
passed_is (fact ∷ facts) s j = passed_is facts s j

-- that shut it
pub shut_is : (facts : List Fact) (s j : ℕ) → has_hop (message_in (index_of facts).messages s).shut j ≡ was_shut facts s j
shut_is [] s j = none_has j
shut_is (Asked seq floor ask mark ∷ facts) s j = left_by (λ m. has_hop m.shut j) (index_of facts).messages (changed (Asked seq floor ask mark)) seq s (λ m. refl) ∙ shut_is facts s j
shut_is (Delivered seq ∷ facts) s j = left_by (λ m. has_hop m.shut j) (index_of facts).messages (changed (Delivered seq)) seq s (λ m. refl) ∙ shut_is facts s j
shut_is (Passed seq hop ∷ facts) s j = left_by (λ m. has_hop m.shut j) (index_of facts).messages (changed (Passed seq hop)) seq s (λ m. refl) ∙ shut_is facts s j
shut_is (Shut seq hop ∷ facts) s j =
    changed_by (λ m. has_hop m.shut j) (index_of facts).messages (changed (Shut seq hop)) seq s _
    (λ e. hop_with (message_in (index_of facts).messages s).shut hop j ∙ of_this seq s hop j _ e ∙ ap (λ b. (seq == s && hop == j) || b) (shut_is facts s j))
    (λ e. of_another seq s hop j _ e ∙ ap (λ b. (seq == s && hop == j) || b) (shut_is facts s j))
shut_is (Turned seq ∷ facts) s j = left_by (λ m. has_hop m.shut j) (index_of facts).messages (changed (Turned seq)) seq s (λ m. refl) ∙ shut_is facts s j
shut_is (Back seq hop ∷ facts) s j = left_by (λ m. has_hop m.shut j) (index_of facts).messages (changed (Back seq hop)) seq s (λ m. refl) ∙ shut_is facts s j
shut_is (fact ∷ facts) s j = shut_is facts s j

-- that passed a yes to it back
pub back_is : (facts : List Fact) (s j : ℕ) → has_hop (message_in (index_of facts).messages s).back j ≡ was_back facts s j
back_is [] s j = none_has j
back_is (Asked seq floor ask mark ∷ facts) s j = left_by (λ m. has_hop m.back j) (index_of facts).messages (changed (Asked seq floor ask mark)) seq s (λ m. refl) ∙ back_is facts s j
back_is (Delivered seq ∷ facts) s j = left_by (λ m. has_hop m.back j) (index_of facts).messages (changed (Delivered seq)) seq s (λ m. refl) ∙ back_is facts s j
back_is (Passed seq hop ∷ facts) s j = left_by (λ m. has_hop m.back j) (index_of facts).messages (changed (Passed seq hop)) seq s (λ m. refl) ∙ back_is facts s j
back_is (Shut seq hop ∷ facts) s j = left_by (λ m. has_hop m.back j) (index_of facts).messages (changed (Shut seq hop)) seq s (λ m. refl) ∙ back_is facts s j
back_is (Turned seq ∷ facts) s j = left_by (λ m. has_hop m.back j) (index_of facts).messages (changed (Turned seq)) seq s (λ m. refl) ∙ back_is facts s j
back_is (Back seq hop ∷ facts) s j =
    changed_by (λ m. has_hop m.back j) (index_of facts).messages (changed (Back seq hop)) seq s _
    (λ e. hop_with (message_in (index_of facts).messages s).back hop j ∙ of_this seq s hop j _ e ∙ ap (λ b. (seq == s && hop == j) || b) (back_is facts s j))
    (λ e. of_another seq s hop j _ e ∙ ap (λ b. (seq == s && hop == j) || b) (back_is facts s j))
back_is (fact ∷ facts) s j = back_is facts s j

-- whether it was turned
pub turned_is : (facts : List Fact) (s : ℕ) → (message_in (index_of facts).messages s).turned ≡ was_turned facts s
turned_is [] s = refl
turned_is (Asked seq floor ask mark ∷ facts) s = left_by (λ m. m.turned) (index_of facts).messages (changed (Asked seq floor ask mark)) seq s (λ m. refl) ∙ turned_is facts s
turned_is (Delivered seq ∷ facts) s = left_by (λ m. m.turned) (index_of facts).messages (changed (Delivered seq)) seq s (λ m. refl) ∙ turned_is facts s
turned_is (Passed seq hop ∷ facts) s = left_by (λ m. m.turned) (index_of facts).messages (changed (Passed seq hop)) seq s (λ m. refl) ∙ turned_is facts s
turned_is (Shut seq hop ∷ facts) s = left_by (λ m. m.turned) (index_of facts).messages (changed (Shut seq hop)) seq s (λ m. refl) ∙ turned_is facts s
turned_is (Turned seq ∷ facts) s =
    changed_by (λ m. m.turned) (index_of facts).messages (changed (Turned seq)) seq s _
    (λ e. sym (ap (λ b. b || was_turned facts s) (eq-eqb seq s (sym e))))
    (λ e. turned_is facts s ∙ sym (ap (λ b. b || was_turned facts s) (ne_eqb seq s (λ same. e (sym same)))))
turned_is (Back seq hop ∷ facts) s = left_by (λ m. m.turned) (index_of facts).messages (changed (Back seq hop)) seq s (λ m. refl) ∙ turned_is facts s
turned_is (fact ∷ facts) s = turned_is facts s

-- what was asked for, and after how many cells
pub sent_is : (facts : List Fact) (s : ℕ) → (message_in (index_of facts).messages s).asked ≡ was_asked facts s
sent_is [] s = refl
sent_is (Asked seq floor ask mark ∷ facts) s =
    changed_by (λ m. m.asked) (index_of facts).messages (changed (Asked seq floor ask mark)) seq s _
    (λ e. sym (ap (λ b. b || was_asked facts s) (eq-eqb seq s (sym e))))
    (λ e. sent_is facts s ∙ sym (ap (λ b. b || was_asked facts s) (ne_eqb seq s (λ same. e (sym same)))))
sent_is (Delivered seq ∷ facts) s = left_by (λ m. m.asked) (index_of facts).messages (changed (Delivered seq)) seq s (λ m. refl) ∙ sent_is facts s
sent_is (Passed seq hop ∷ facts) s = left_by (λ m. m.asked) (index_of facts).messages (changed (Passed seq hop)) seq s (λ m. refl) ∙ sent_is facts s
sent_is (Shut seq hop ∷ facts) s = left_by (λ m. m.asked) (index_of facts).messages (changed (Shut seq hop)) seq s (λ m. refl) ∙ sent_is facts s
sent_is (Turned seq ∷ facts) s = left_by (λ m. m.asked) (index_of facts).messages (changed (Turned seq)) seq s (λ m. refl) ∙ sent_is facts s
sent_is (Back seq hop ∷ facts) s = left_by (λ m. m.asked) (index_of facts).messages (changed (Back seq hop)) seq s (λ m. refl) ∙ sent_is facts s
sent_is (fact ∷ facts) s = sent_is facts s

pub floor_is : (facts : List Fact) (s : ℕ) → (message_in (index_of facts).messages s).floor ≡ floor_of facts s
floor_is [] s = refl
floor_is (Asked seq floor ask mark ∷ facts) s =
    changed_by (λ m. m.floor) (index_of facts).messages (changed (Asked seq floor ask mark)) seq s _
    (λ e. sym (ap (λ b. if b then floor else floor_of facts s) (eq-eqb seq s (sym e))))
    (λ e. floor_is facts s ∙ sym (ap (λ b. if b then floor else floor_of facts s) (ne_eqb seq s (λ same. e (sym same)))))
floor_is (Delivered seq ∷ facts) s = left_by (λ m. m.floor) (index_of facts).messages (changed (Delivered seq)) seq s (λ m. refl) ∙ floor_is facts s
floor_is (Passed seq hop ∷ facts) s = left_by (λ m. m.floor) (index_of facts).messages (changed (Passed seq hop)) seq s (λ m. refl) ∙ floor_is facts s
floor_is (Shut seq hop ∷ facts) s = left_by (λ m. m.floor) (index_of facts).messages (changed (Shut seq hop)) seq s (λ m. refl) ∙ floor_is facts s
floor_is (Turned seq ∷ facts) s = left_by (λ m. m.floor) (index_of facts).messages (changed (Turned seq)) seq s (λ m. refl) ∙ floor_is facts s
floor_is (Back seq hop ∷ facts) s = left_by (λ m. m.floor) (index_of facts).messages (changed (Back seq hop)) seq s (λ m. refl) ∙ floor_is facts s
floor_is (fact ∷ facts) s = floor_is facts s

pub rate_is : (facts : List Fact) (s : ℕ) → (message_in (index_of facts).messages s).ask ≡ ask_of facts s
rate_is [] s = refl
rate_is (Asked seq floor ask mark ∷ facts) s =
    changed_by (λ m. m.ask) (index_of facts).messages (changed (Asked seq floor ask mark)) seq s _
    (λ e. sym (ap (λ b. if b then ask else ask_of facts s) (eq-eqb seq s (sym e))))
    (λ e. rate_is facts s ∙ sym (ap (λ b. if b then ask else ask_of facts s) (ne_eqb seq s (λ same. e (sym same)))))
rate_is (Delivered seq ∷ facts) s = left_by (λ m. m.ask) (index_of facts).messages (changed (Delivered seq)) seq s (λ m. refl) ∙ rate_is facts s
rate_is (Passed seq hop ∷ facts) s = left_by (λ m. m.ask) (index_of facts).messages (changed (Passed seq hop)) seq s (λ m. refl) ∙ rate_is facts s
rate_is (Shut seq hop ∷ facts) s = left_by (λ m. m.ask) (index_of facts).messages (changed (Shut seq hop)) seq s (λ m. refl) ∙ rate_is facts s
rate_is (Turned seq ∷ facts) s = left_by (λ m. m.ask) (index_of facts).messages (changed (Turned seq)) seq s (λ m. refl) ∙ rate_is facts s
rate_is (Back seq hop ∷ facts) s = left_by (λ m. m.ask) (index_of facts).messages (changed (Back seq hop)) seq s (λ m. refl) ∙ rate_is facts s
rate_is (fact ∷ facts) s = rate_is facts s

pub asked_mark : (facts : List Fact) (s : ℕ) → (message_in (index_of facts).messages s).mark ≡ mark_of facts s
asked_mark [] s = refl
asked_mark (Asked seq floor ask mark ∷ facts) s =
    changed_by (λ m. m.mark) (index_of facts).messages (changed (Asked seq floor ask mark)) seq s _
    (λ e. sym (ap (λ b. if b then mark else mark_of facts s) (eq-eqb seq s (sym e))))
    (λ e. asked_mark facts s ∙ sym (ap (λ b. if b then mark else mark_of facts s) (ne_eqb seq s (λ same. e (sym same)))))
asked_mark (Delivered seq ∷ facts) s = left_by (λ m. m.mark) (index_of facts).messages (changed (Delivered seq)) seq s (λ m. refl) ∙ asked_mark facts s
asked_mark (Passed seq hop ∷ facts) s = left_by (λ m. m.mark) (index_of facts).messages (changed (Passed seq hop)) seq s (λ m. refl) ∙ asked_mark facts s
asked_mark (Shut seq hop ∷ facts) s = left_by (λ m. m.mark) (index_of facts).messages (changed (Shut seq hop)) seq s (λ m. refl) ∙ asked_mark facts s
asked_mark (Turned seq ∷ facts) s = left_by (λ m. m.mark) (index_of facts).messages (changed (Turned seq)) seq s (λ m. refl) ∙ asked_mark facts s
asked_mark (Back seq hop ∷ facts) s = left_by (λ m. m.mark) (index_of facts).messages (changed (Back seq hop)) seq s (λ m. refl) ∙ asked_mark facts s
asked_mark (fact ∷ facts) s = asked_mark facts s

abbrev pub asked_by : Message → Option (ℕ × ℕ)
asked_by message = if message.asked then Some (message.floor, message.ask) else None

pub asked_is : (facts : List Fact) (s : ℕ) → asked_by (message_in (index_of facts).messages s) ≡ asked_in facts s
asked_is facts s =
    ap (λ b. if b then Some ((message_in (index_of facts).messages s).floor, (message_in (index_of facts).messages s).ask) else None) (sent_is facts s)
    ∙ ap (λ floor. if was_asked facts s then Some (floor, (message_in (index_of facts).messages s).ask) else None) (floor_is facts s)
    ∙ ap (λ ask. if was_asked facts s then Some (floor_of facts s, ask) else None) (rate_is facts s)

-- the greatest mark that came to the first hop
pub mark_is : (facts : List Fact) → (index_of facts).mark ≡ delivered_mark_of facts
mark_is [] = refl
mark_is (Delivered seq ∷ facts) = (let mine = asked_mark facts seq in let rest = mark_is facts in omega arith)
mark_is (fact ∷ facts) = mark_is facts

-- the moments of cells
pub moment_is : (facts : List Fact) (n : ℕ) → moment_in (index_of facts).emissions n ≡ moment_of facts n
moment_is [] n = refl
moment_is (Emitted cell at rate ∷ facts) n = ap (λ m. if cell == n then at else m) (moment_is facts n)
moment_is (fact ∷ facts) n = moment_is facts n

-- the last arrival
pub last_is : (facts : List Fact) → option_map_or (λ arrival. arrival.1) (index_of facts).last 0 ≡ last_arrival_of facts
last_is [] = refl
last_is (Arrived cell at rate verdict ∷ facts) = refl
last_is (fact ∷ facts) = last_is facts

pub behind_is : (facts : List Fact) (n : ℕ) → option_map_or (λ arrival. nat_le n arrival.0) (index_of facts).last false ≡ nat_lt n (after_last_of facts)
behind_is [] n = grind (arith, nat_tests)
behind_is (Arrived cell at rate verdict ∷ facts) n = grind (arith, nat_tests)
behind_is (fact ∷ facts) n = behind_is facts n

-- whether all that arrived conform
pub conform_is : (facts : List Fact) → (index_of facts).conform ≡ list_all conforms_if_arrived facts
conform_is [] = refl
conform_is (Arrived cell at rate verdict ∷ facts) = ap (λ b. b && conforms_if_arrived (Arrived cell at rate verdict)) (conform_is facts) ∙ and_comm (list_all conforms_if_arrived facts) _
conform_is (fact ∷ facts) = conform_is facts

-- the number of the next cell
pub cells_counted : (facts : List Fact) → length (index_of facts).emissions ≡ emitted_of facts
cells_counted [] = refl
cells_counted (Emitted cell at rate ∷ facts) = (let rest = cells_counted facts in omega arith)
cells_counted (fact ∷ facts) = cells_counted facts
