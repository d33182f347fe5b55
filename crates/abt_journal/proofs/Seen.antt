-- What was seen of a journal, after one receipt more.
use Rattle.std.proofs.Common.{◌≡◌, ◌≢◌, ℕ, ◌+◌, ◌<◌, ◌^◌, ◌==◌, Bool, true, false, cond, List, [], ◌∷◌, ◌++◌, map, length, take, get_or, set, Option, None, Some, refl, sym, ap, ◌∙◌, arith}
use Rattle.std.specs.List.{filter, last_or}
use Rattle.std.proofs.lemmas.List.{take_more, get_or-set_same, get_or-set_other}
use Rattle.std.proofs.lemmas.List.Elements.{All-push}
use Rattle.std.proofs.lemmas.Bool.Decides.{nat_tests}
use Rattle.abt_journal.specs.declared.entry.Entry.{Entry}
use Rattle.abt_journal.specs.declared.entry.Receipt.{Receipt}
use Rattle.abt_journal.specs.Counts.{count_at, AreCounted}
use Rattle.abt_journal.specs.Receipts.{entries_at, up_to, seen_at}

-- what was seen, where a receipt was already there
abbrev seen_after : Option Entry → ℕ → List Receipt → ℕ
seen_after o port receipts = up_to (last_or o (entries_at port receipts))

last_one : (o : Option Entry) (r : Receipt) (here : Bool) → up_to (last_or o (map (λ (x : Receipt). x.entry) (cond here (r ∷ []) []))) ≡ cond here (r.entry.place + 1) (up_to o)
last_one o r true = refl
last_one o r false = refl

-- past the first receipt, whether it is of this port or not
past_first : (o : Option Entry) (port : ℕ) (q : Receipt) (receipts : List Receipt) (r : Receipt) (here : Bool)
    → ((p : Option Entry) → seen_after p port (receipts ++ r ∷ []) ≡ cond (r.port == port) (r.entry.place + 1) (seen_after p port receipts))
    → up_to (last_or o (map (λ (x : Receipt). x.entry) (cond here (q ∷ filter (λ x. x.port == port) (receipts ++ r ∷ [])) (filter (λ x. x.port == port) (receipts ++ r ∷ [])))))
    ≡ cond (r.port == port) (r.entry.place + 1) (up_to (last_or o (map (λ (x : Receipt). x.entry) (cond here (q ∷ filter (λ x. x.port == port) receipts) (filter (λ x. x.port == port) receipts)))))
past_first o port q receipts r true rest = rest (Some q.entry)
past_first o port q receipts r false rest = rest o

seen_after-push : (o : Option Entry) (port : ℕ) (receipts : List Receipt) (r : Receipt)
    → seen_after o port (receipts ++ r ∷ []) ≡ cond (r.port == port) (r.entry.place + 1) (seen_after o port receipts)
seen_after-push o port [] r = last_one o r (r.port == port)
seen_after-push o port (q ∷ receipts) r = past_first o port q receipts r (q.port == port) (λ p. seen_after-push p port receipts r)

pub seen_at-push : (port : ℕ) (receipts : List Receipt) (r : Receipt) → seen_at port (receipts ++ r ∷ []) ≡ cond (r.port == port) (r.entry.place + 1) (seen_at port receipts)
seen_at-push port receipts r = seen_after-push None port receipts r

pub seen_at_more : (port : ℕ) (receipts : List Receipt) (i : ℕ) (r : Receipt) → i < length receipts → r ≡ get_or receipts i r
    → seen_at port (take (i + 1) receipts) ≡ cond (r.port == port) (r.entry.place + 1) (seen_at port (take i receipts))
seen_at_more port receipts i r below at =
    ap (seen_at port) (take_more receipts i r below)
    ∙ ap (λ (x : Receipt). seen_at port (take i receipts ++ x ∷ [])) (sym at)
    ∙ seen_at-push port (take i receipts) r

-- the last receipt of a port is what was seen of it
pub seen_at_last : (port : ℕ) (receipts grown : List Receipt) (r : Receipt) → grown ≡ receipts ++ r ∷ [] → r.port ≡ port → seen_at port grown ≡ r.entry.place + 1
seen_at_last port receipts grown r pushed here =
    let more = ap (seen_at port) pushed ∙ seen_at-push port receipts r in grind (arith, nat_tests)

-- the counts of a caller that has no receipt
pub AreCounted-nil : (counts : List ℕ) → ((port : ℕ) → count_at counts port ≡ 0) → AreCounted [] counts
AreCounted-nil counts none = record { within = λ k d below. absurd (omega (arith, below)); counted = none }

-- counts that say the same
pub AreCounted-same : (receipts : List Receipt) (old new : List ℕ) → ((port : ℕ) → count_at new port ≡ count_at old port) → AreCounted receipts old → AreCounted receipts new
AreCounted-same receipts old new same are = record { within = are.within; counted = λ port. same port ∙ are.counted port }

counted_at : (receipts : List Receipt) (counts : List ℕ) (r : Receipt) (port : ℕ) (here : Bool) → (r.port == port) ≡ here → r.port < length counts → AreCounted receipts counts
    → count_at (set counts r.port (r.entry.place + 1)) port ≡ cond here (r.entry.place + 1) (seen_at port receipts)
counted_at receipts counts r port true is below are =
    let same : port ≡ r.port = grind (arith, nat_tests) in
    ap (λ p. get_or (set counts r.port (r.entry.place + 1)) p 0) same ∙ get_or-set_same counts r.port (r.entry.place + 1) 0 below
counted_at receipts counts r port false is below are =
    let apart : port ≢ r.port = grind (arith, nat_tests) in
    get_or-set_other counts r.port port (r.entry.place + 1) 0 apart ∙ are.counted port

-- one receipt more, whose count is noted
pub AreCounted-push : (receipts : List Receipt) (counts : List ℕ) (r : Receipt) → r.entry.place + 1 < 2 ^ 64 → r.port < length counts → AreCounted receipts counts
    → AreCounted (receipts ++ r ∷ []) (set counts r.port (r.entry.place + 1))
AreCounted-push receipts counts r fits below are = record {
  within = All-push (λ (x : Receipt). x.entry.place + 1 < 2 ^ 64) receipts r are.within fits;
  counted = λ port. counted_at receipts counts r port (r.port == port) refl below are ∙ sym (seen_at-push port receipts r);
}
