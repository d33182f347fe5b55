-- An entry more tells more.
use Rattle.std.proofs.Common.{◌≡◌, ℕ, zero, suc, ◌+◌, ◌<◌, ◌≤◌, ◌++◌, Bool, true, false, List, [], ◌∷◌, length, get_or, take, cond, refl, sym, ap, subst, arith, ◌∙◌}
use Rattle.std.proofs.lemmas.List.{take_more}
use Rattle.std.proofs.lemmas.List.Elements.{filter_map-append}
use Rattle.std.specs.Prelude.{Option, None, Some, filter_map, option_to_list, nat_eq}
use Rattle.std.specs.List.{enumerate_from, cons_option}
use Rattle.indexmap.specs.IndexMap as index
use Rattle.abt_model.specs.declared.entry.SourceEntry.{SourceEntry}
use Rattle.abt_derive.specs.declared.told.Told.{Told}
use Rattle.abt_derive.specs.Tells.{asked_by, asked_from, asked_in, asks, cell_of, sent_of, arrived_of, is_number, noted, IsNoted, IsToldBy}

numbered_more : {A : Type 0} (n : ℕ) (items : List A) (item : A)
    → enumerate_from n (items ++ item ∷ []) ≡ enumerate_from n items ++ (n + length items, item) ∷ []
numbered_more n [] item = ap (λ (k : ℕ). (k, item) ∷ []) (omega arith)
numbered_more n (one ∷ items) item =
    ap (λ rest. (n, one) ∷ rest)
    (numbered_more (n + 1) items item ∙ ap (λ (k : ℕ). enumerate_from (n + 1) items ++ (k, item) ∷ []) (omega arith))

one_kept : {A : Type 0} (o : Option A) → cons_option o [] ≡ option_to_list o
one_kept None = refl
one_kept (Some x) = refl

told_more : {B : Type 0} (h : ℕ × SourceEntry → Option B) (entries : List SourceEntry) (entry : SourceEntry) (behind : ℕ) → behind ≡ length entries + 1
    → filter_map h (enumerate_from 1 (entries ++ entry ∷ [])) ≡ filter_map h (enumerate_from 1 entries) ++ option_to_list (h (behind, entry))
told_more h entries entry behind here =
    ap (filter_map h) (numbered_more 1 entries entry) ∙ filter_map-append h (enumerate_from 1 entries) ((1 + length entries, entry) ∷ [])
    ∙ ap (λ more. filter_map h (enumerate_from 1 entries) ++ more)
    (one_kept (h (1 + length entries, entry)) ∙ ap (λ (k : ℕ). option_to_list (h (k, entry))) (omega (arith, here)))

asked_more_by : (b : Bool) (n : ℕ) (entries : List SourceEntry) (entry : SourceEntry) (seq : ℕ) (behind : ℕ) → behind ≡ n + 1
    → cond b (Some (n + 1)) None ≡ noted None b behind
asked_more_by true n entries entry seq behind here = ap Some (sym here)
asked_more_by false n entries entry seq behind here = refl

asked_past : (b : Bool) (n : ℕ) (rest whole : Option ℕ) (last : Bool) (behind : ℕ) → whole ≡ noted rest last behind
    → cond b (Some n) whole ≡ noted (cond b (Some n) rest) last behind
asked_past true n rest whole last behind is = refl
asked_past false n rest whole last behind is = is

asked_more : (n : ℕ) (entries : List SourceEntry) (entry : SourceEntry) (seq behind : ℕ) → behind ≡ n + length entries + 1
    → asked_from n (entries ++ entry ∷ []) seq ≡ noted (asked_from n entries seq) (asks seq entry) behind
asked_more n [] entry seq behind here = asked_more_by (asks seq entry) n [] entry seq behind (omega (arith, here))
asked_more n (one ∷ entries) entry seq behind here =
    asked_past (asks seq one) (n + 1) (asked_from (n + 1) entries seq) (asked_from (n + 1) (entries ++ entry ∷ []) seq) (asks seq entry) behind
    (asked_more (n + 1) entries entry seq behind (omega (arith, here)))

pub noted_none : (o : Option ℕ) (behind : ℕ) → noted o false behind ≡ o
noted_none None behind = refl
noted_none (Some x) behind = refl

-- an entry more is told
pub told_by_more : (entries : List SourceEntry) (entry : SourceEntry) (behind : ℕ) (asked : Option ℕ) (old mid new : Told) → IsToldBy entries old
    → behind ≡ length entries + 1 → asked ≡ asked_by entry → IsNoted old mid behind asked → new.asked ≡ mid.asked
    → new.cells.items ≡ mid.cells.items ++ option_to_list (cell_of (behind, entry))
    → new.sent.items ≡ mid.sent.items ++ option_to_list (sent_of (behind, entry))
    → new.arrived.items ≡ mid.arrived.items ++ option_to_list (arrived_of (behind, entry)) → IsToldBy (entries ++ entry ∷ []) new
told_by_more entries entry behind asked old mid new is here asks so same cells sent arrived = record {
  asked = λ s.
      ap (λ table. index.get nat_eq table s) same ∙ so.1 s ∙ ap (λ o. noted o (is_number s asked) behind) (is.asked s)
      ∙ ap (λ (o : Option ℕ). noted (asked_in entries s) (is_number s o) behind) asks ∙ sym (asked_more 0 entries entry s behind (omega (arith, here)));
  cells = cells ∙ ap (λ (t : Told). t.cells.items ++ option_to_list (cell_of (behind, entry))) so.0
      ∙ ap (λ cs. cs ++ option_to_list (cell_of (behind, entry))) is.cells ∙ sym (told_more cell_of entries entry behind here);
  sent = sent ∙ ap (λ (t : Told). t.sent.items ++ option_to_list (sent_of (behind, entry))) so.0
      ∙ ap (λ cs. cs ++ option_to_list (sent_of (behind, entry))) is.sent ∙ sym (told_more sent_of entries entry behind here);
  arrived = arrived ∙ ap (λ (t : Told). t.arrived.items ++ option_to_list (arrived_of (behind, entry))) so.0
      ∙ ap (λ cs. cs ++ option_to_list (arrived_of (behind, entry))) is.arrived ∙ sym (told_more arrived_of entries entry behind here);
}

taken : {A : Type 0} (xs : List A) (i : ℕ) → i ≤ length xs → length (take i xs) ≡ i
taken xs zero low = refl
taken [] (suc i) low = absurd (omega (arith, low))
taken (x ∷ xs) (suc i) low = ap suc (taken xs i (omega (arith, low)))

-- the next entry is told
pub told_by_next : (entries : List SourceEntry) (n : ℕ) (entry : SourceEntry) (old new : Told) → n < length entries → entry ≡ get_or entries n entry
    → IsToldBy (take n entries) old
    → ((es : List SourceEntry) → IsToldBy es old → n + 1 ≡ length es + 1 → IsToldBy (es ++ entry ∷ []) new) → IsToldBy (take (n + 1) entries) new
told_by_next entries n entry old new low is so more =
    let count = taken entries n (omega (arith, low)) in
    subst (λ (es : List SourceEntry). IsToldBy es new) (sym (take_more entries n entry low ∙ ap (λ (e : SourceEntry). take n entries ++ e ∷ []) (sym is)))
    (more (take n entries) so (omega (arith, count)))
