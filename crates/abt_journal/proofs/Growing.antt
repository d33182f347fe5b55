-- A journal that grows by one entry.
use Rattle.std.proofs.Common.{◌≡◌, ℕ, zero, suc, ◌<◌, ◌⊎◌, inl, inr, List, [], ◌∷◌, ◌++◌, length, take, Some, refl, sym, ap, ◌∙◌, arith}
use Rattle.std.specs.Prelude.{slice_get}
use Rattle.std.proofs.lemmas.List.{take-append-le, take_all}
use Rattle.abt_node.specs.Table.{Table}
use Rattle.abt_journal.specs.declared.entry.Entry.{Entry}
use Rattle.abt_journal.specs.Replay.{reply_by, table_after, replay, IsHistory, IsReplayed}

pub replay-push : (opening : Table) (es : List Entry) (e : Entry) → replay opening (es ++ e ∷ []) ≡ table_after (replay opening es) e.input
replay-push opening [] e = refl
replay-push opening (x ∷ es) e = replay-push (table_after opening x.input) es e

-- An entry of the longer journal is one of the shorter, or the last.
abbrev Stands : List Entry → Entry → ℕ → Entry → Type 0
Stands es e i x = ((i < length es) × (slice_get es i ≡ Some x)) ⊎ ((i ≡ length es) × (x ≡ e))

abbrev Further : List Entry → Entry → Entry → ℕ → Entry → Type 0
Further es e y i x = Stands es e i x → Stands (y ∷ es) e (suc i) x

further : (es : List Entry) (e y : Entry) (i : ℕ) (x : Entry) → Further es e y i x
further es e y i x (inl h) = inl (omega arith, h.1)
further es e y i x (inr h) = inr (omega arith, h.1)

slice_get-push : (es : List Entry) (e : Entry) (i : ℕ) (x : Entry) → slice_get (es ++ e ∷ []) i ≡ Some x → Stands es e i x
slice_get-push [] e zero x h = inr (refl, cc)
slice_get-push [] e (suc i) x h = absurd (cc)
slice_get-push (y ∷ es) e zero x h = inl (omega arith, h)
slice_get-push (y ∷ es) e (suc i) x h = further es e y i x (slice_get-push es e i x h)

place_of : (opening : Table) (es : List Entry) (e : Entry) (i : ℕ) (x : Entry) → IsHistory opening es → e.place ≡ length es → Stands es e i x → x.place ≡ i
place_of opening es e i x h place (inl old) = h.places i x old.1
place_of opening es e i x h place (inr last) = ap (λ (y : Entry). y.place) last.1 ∙ place ∙ sym last.0

reply_of : (opening : Table) (es : List Entry) (e : Entry) (i : ℕ) (x : Entry) → IsHistory opening es → e.reply ≡ reply_by (replay opening es) e.input → Stands es e i x
    → x.reply ≡ reply_by (replay opening (take i (es ++ e ∷ []))) x.input
reply_of opening es e i x h reply (inl old) =
    h.replies i x old.1 ∙ ap (λ before. reply_by (replay opening before) x.input) (sym (take-append-le i es (e ∷ []) (omega (arith, old.0))))
reply_of opening es e i x h reply (inr last) =
    let before : take i (es ++ e ∷ []) ≡ es = take-append-le i es (e ∷ []) (omega (arith, last.0)) ∙ take_all i es (omega (arith, last.0)) in
    ap (λ (y : Entry). y.reply) last.1 ∙ reply
    ∙ ap (λ (y : Entry). reply_by (replay opening es) y.input) (sym last.1)
    ∙ ap (λ past. reply_by (replay opening past) x.input) (sym before)

history-push : (opening : Table) (es : List Entry) (e : Entry) → IsHistory opening es → e.place ≡ length es → e.reply ≡ reply_by (replay opening es) e.input
    → IsHistory opening (es ++ e ∷ [])
history-push opening es e h place reply = record {
  places = λ i x there. place_of opening es e i x h place (slice_get-push es e i x there);
  replies = λ i x there. reply_of opening es e i x h reply (slice_get-push es e i x there);
}

-- a step more
pub replayed-push : (opening now : Table) (es : List Entry) (e : Entry) → IsReplayed opening now es → e.place ≡ length es → e.reply ≡ reply_by now e.input
    → IsReplayed opening (table_after now e.input) (es ++ e ∷ [])
replayed-push opening now es e h place reply = record {
  history = history-push opening es e h.history place (reply ∙ ap (λ t. reply_by t e.input) h.table);
  table = ap (λ t. table_after t e.input) h.table ∙ sym (replay-push opening es e);
}

-- no step yet
pub replayed-nil : (opening now : Table) → now ≡ opening → IsReplayed opening now []
replayed-nil opening now same = record {
  history = record { places = λ i e none. absurd (cc); replies = λ i e none. absurd (cc) };
  table = same;
}
