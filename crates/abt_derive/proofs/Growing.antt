-- A journal under way is completed entry by entry.
use Rattle.std.proofs.Common.{◌≡◌, inl, inr, ℕ, zero, suc, ◌+◌, ◌<◌, ◌≤◌, ◌++◌, List, [], ◌∷◌, length, map, take, get_or, refl, sym, ap, subst, arith, ◌∙◌, append_assoc, append-nil, drop}
use Rattle.std.proofs.lemmas.List.{take_more, map-append}
use Rattle.std.specs.Prelude.{Vec, Option, None, Some, Result, Ok, Err, OnOk, option_to_list, option_map, option_and_then, slice_get}
use Rattle.std.specs.List.{cons_option}
use Rattle.std.proofs.lemmas.List.Elements.{filter_map-append}
use Rattle.std.specs.declared.alloc.Global.{Global}
use Rattle.abt_journal.specs.declared.entry.Entry.{Entry}
use Rattle.abt_journal_text.specs.Books.{lists_of}
use Rattle.abt_journal_text.specs.declared.spot.Spot.{Spot}
use Rattle.abt_model.specs.declared.entry.SourceEntry.{SourceEntry}
use Rattle.abt_model.specs.declared.journal.SourceJournal.{SourceJournal}
use Rattle.abt_net.specs.Topology.{Topology, conn_at}
use Rattle.abt_derive.specs.declared.completing.Completed.{Completed}
use Rattle.abt_derive.specs.Completes.{Completes, Grows, HasMore, IsAdded, Line, derived_lines, entries_of, full_lines, line_of, place_in, spot_at, spots_in, stands_by}
use Rattle.abt_derive.specs.Lists.{behind_first, first_ones}
use Rattle.abt_derive.specs.declared.derived.Derived.{Derived}
use Rattle.abt_derive.specs.Derives.{CompletesAt, AreCompletedFrom, first_port, lacks, spots_of}

-- an entry more that was derived
pub added : (first spots : List Spot) (place : ℕ) (entries full : List SourceEntry) (at : List Spot) (one : SourceEntry) (spot : Spot)
    → Completes first spots place entries full at → IsAdded first one spot → Completes first spots place entries (full ++ one ∷ []) (at ++ spot ∷ [])
added first spots place entries [] [] one spot is so = inl (so, is)
added first spots place entries [] (s ∷ at) one spot is so = absurd is
added first spots place entries (entry ∷ full) [] one spot is so = absurd is
added first spots place entries (entry ∷ full) (s ∷ at) one spot (inl is) so = inl (is.0, added first spots place entries full at one spot is.1 so)
added first spots place entries (entry ∷ full) (s ∷ at) one spot (inr (rest, e, here, is)) so =
    inr (rest, e, here, added first spots (place + 1) rest full at one spot is so)

-- an entry more that was written
pub kept : (first spots : List Spot) (place n : ℕ) (entries full : List SourceEntry) (at : List Spot) (one : SourceEntry)
    → Completes first spots place entries full at → n ≡ place + length entries
    → Completes first spots place (entries ++ one ∷ []) (full ++ one ∷ []) (at ++ spot_at spots n ∷ [])
kept first spots place n entries [] [] one is so =
    let here : n ≡ place = (let none = ap (λ (es : List SourceEntry). length es) is in omega arith) in
    inr ([], ap (λ (es : List SourceEntry). es ++ one ∷ []) is, ap (spot_at spots) here, refl)
kept first spots place n entries [] (s ∷ at) one is so = absurd is
kept first spots place n entries (entry ∷ full) [] one is so = absurd is
kept first spots place n entries (entry ∷ full) (s ∷ at) one (inl is) so = inl (is.0, kept first spots place n entries full at one is.1 so)
kept first spots place n entries (entry ∷ full) (s ∷ at) one (inr (rest, e, here, is)) so =
    let further : n ≡ place + 1 + length rest = (let longer = ap (λ (es : List SourceEntry). length es) e in omega arith) in
    inr (rest ++ one ∷ [], ap (λ (es : List SourceEntry). es ++ one ∷ []) e, here, kept first spots (place + 1) n rest full at one is further)

-- a source more
pub one_more : (net : Topology) (steps : List (List Entry)) (ports before : List (List Spot)) (c n : ℕ) (sources full : List SourceJournal) (spots : List (List Spot))
    (journal one : SourceJournal) (at : List Spot) → AreCompletedFrom net steps ports before c sources full spots → n ≡ c + length sources
    → CompletesAt net steps ports before n journal one at
    → AreCompletedFrom net steps ports before c (sources ++ journal ∷ []) (full ++ one ∷ []) (spots ++ at ∷ [])
one_more net steps ports before c n [] full spots journal one at is so here =
    let same : n ≡ c = omega arith in
    subst (λ (fs : List SourceJournal). AreCompletedFrom net steps ports before c (journal ∷ []) (fs ++ one ∷ []) (spots ++ at ∷ [])) (sym is.0)
    (subst (λ (ss : List (List Spot)). AreCompletedFrom net steps ports before c (journal ∷ []) (one ∷ []) (ss ++ at ∷ [])) (sym is.1)
    (subst (λ (k : ℕ). CompletesAt net steps ports before k journal one at) same here, (refl, refl)))
one_more net steps ports before c n (j ∷ sources) [] spots journal one at is so here = absurd is
one_more net steps ports before c n (j ∷ sources) (f ∷ full) [] journal one at is so here = absurd is
one_more net steps ports before c n (j ∷ sources) (f ∷ full) (s ∷ spots) journal one at is so here =
    (is.0, one_more net steps ports before (c + 1) n sources full spots journal one at is.1 (omega arith) here)

-- there are as many sources
pub as_many : (net : Topology) (steps : List (List Entry)) (ports before : List (List Spot)) (c : ℕ) (sources full : List SourceJournal) (spots : List (List Spot))
    → AreCompletedFrom net steps ports before c sources full spots → length full ≡ length sources
as_many net steps ports before c [] full spots is = ap (λ (fs : List SourceJournal). length fs) is.0
as_many net steps ports before c (j ∷ sources) [] spots is = absurd is
as_many net steps ports before c (j ∷ sources) (f ∷ full) [] is = absurd is
as_many net steps ports before c (j ∷ sources) (f ∷ full) (s ∷ spots) is = ap suc (as_many net steps ports before (c + 1) sources full spots is.1)

-- an entry that is added is one more that was derived
pub grows_added : (first : List Spot) (old new : Completed) (one : SourceEntry) (spot : Spot) → IsAdded first one spot
    → new.entries.items ≡ old.entries.items ++ one ∷ [] → new.spots.items ≡ old.spots.items ++ spot ∷ [] → Grows first old new
grows_added first old new one spot so longer further = λ spots entries is.
    subst (λ (fs : List SourceEntry). Completes first spots 0 entries fs new.spots.items) (sym longer)
    (subst (λ (ss : List Spot). Completes first spots 0 entries (old.entries.items ++ one ∷ []) ss) (sym further)
    (added first spots 0 entries old.entries.items old.spots.items one spot is so))

pub both_ok : {T E : Type 0} (r : Result T E) (P Q R : Type 0) → OnOk r P → OnOk r Q → (P → Q → R) → OnOk r R
both_ok (Ok x) P Q R p q f = f p q
both_ok (Err e) P Q R p q f = tt

taken : {A : Type 0} (xs : List A) (i : ℕ) → i ≤ length xs → length (take i xs) ≡ i
taken xs zero low = refl
taken [] (suc i) low = absurd (omega (arith, low))
taken (x ∷ xs) (suc i) low = ap suc (taken xs i (omega (arith, low)))

-- the next written entry is kept
pub kept_on : (first spots : List Spot) (n : ℕ) (entries full new : List SourceEntry) (at new_at : List Spot) (one : SourceEntry) (spot : Spot)
    → n < length entries → one ≡ get_or entries n one → Completes first spots 0 (take n entries) full at → new ≡ full ++ one ∷ []
    → new_at ≡ at ++ spot ∷ [] → spot ≡ spot_at spots n → Completes first spots 0 (take (n + 1) entries) new new_at
kept_on first spots n entries full new at new_at one spot low is so longer further here =
    let count = taken entries n (omega (arith, low)) in
    subst (λ (es : List SourceEntry). Completes first spots 0 es new new_at)
    (sym (take_more entries n one low ∙ ap (λ (e : SourceEntry). take n entries ++ e ∷ []) (sym is)))
    (subst (λ (fs : List SourceEntry). Completes first spots 0 (take n entries ++ one ∷ []) fs new_at) (sym longer)
    (subst (λ (ss : List Spot). Completes first spots 0 (take n entries ++ one ∷ []) (full ++ one ∷ []) ss)
    (sym (further ∙ ap (λ (s : Spot). at ++ s ∷ []) here)) (kept first spots 0 n (take n entries) full at one so (omega (arith, count)))))

pub lists_more : (old new : Vec (Vec Spot Global) Global) (one : Vec Spot Global) → new.items ≡ old.items ++ one ∷ []
    → lists_of new ≡ lists_of old ++ one.items ∷ []
lists_more old new one is = ap (map (λ (spots : Vec Spot Global). spots.items)) is ∙ map-append (λ (spots : Vec Spot Global). spots.items) old.items (one ∷ [])

-- the next source is completed
pub one_on : (net : Topology) (steps : List (List Entry)) (ports before : List (List Spot)) (n : ℕ) (sources full new : List SourceJournal) (spots new_spots : List (List Spot))
    (journal one : SourceJournal) (at : List Spot) → n < length sources → journal ≡ get_or sources n journal
    → AreCompletedFrom net steps ports before 0 (take n sources) full spots → CompletesAt net steps ports before n journal one at → new ≡ full ++ one ∷ []
    → new_spots ≡ spots ++ at ∷ [] → AreCompletedFrom net steps ports before 0 (take (n + 1) sources) new new_spots
one_on net steps ports before n sources full new spots new_spots journal one at low is so here longer further =
    let count = taken sources n (omega (arith, low)) in
    subst (λ (js : List SourceJournal). AreCompletedFrom net steps ports before 0 js new new_spots)
    (sym (take_more sources n journal low ∙ ap (λ (j : SourceJournal). take n sources ++ j ∷ []) (sym is)))
    (subst (λ (fs : List SourceJournal). AreCompletedFrom net steps ports before 0 (take n sources ++ journal ∷ []) fs new_spots) (sym longer)
    (subst (λ (ss : List (List Spot)). AreCompletedFrom net steps ports before 0 (take n sources ++ journal ∷ []) (full ++ one ∷ []) ss) (sym further)
    (one_more net steps ports before 0 n (take n sources) full spots journal one at so (omega (arith, count)) here)))

-- ---- which lines a journal has

mapped_on : {A : Type 0} (f : Line → A) (o : Option Line) (lines : List Line) → map f (cons_option o lines) ≡ map f (option_to_list o) ++ map f lines
mapped_on f None lines = refl
mapped_on f (Some line) lines = refl

-- derived entries are added one by one
pub has_one : (first : List Spot) (one : Derived) (spot : Spot) (old new : Completed) → option_and_then (slice_get first) (place_in one.entry) ≡ Some spot
    → new.entries.items ≡ old.entries.items ++ one.entry ∷ [] → new.spots.items ≡ old.spots.items ++ spot ∷ []
    → HasMore (option_to_list (line_of first one)) old new
has_one first one spot old new so longer further =
    let line = ap (λ (o : Option Spot). option_to_list (option_map (λ (s : Spot). record { entry = one.entry; spot = s }) o)) so in
    subst (λ (lines : List Line). HasMore lines old new) (sym line) (record { entries = longer; spots = further })

pub has_none : (old : Completed) → HasMore [] old old
has_none old = record { entries = sym (append-nil old.entries.items); spots = sym (append-nil old.spots.items) }

one_of : {A : Type 0} (f : Line → A) (first : List Spot) (one : Derived) → map f (derived_lines first (one ∷ [])) ≡ map f (option_to_list (line_of first one))
one_of f first one = mapped_on f (line_of first one) [] ∙ append-nil (map f (option_to_list (line_of first one)))

lines_both : {A : Type 0} (f : Line → A) (first : List Spot) (ones : List Derived) (one : Derived) (old mid new : List A)
    → mid ≡ old ++ map f (derived_lines first ones) → new ≡ mid ++ map f (option_to_list (line_of first one))
    → new ≡ old ++ map f (derived_lines first (ones ++ one ∷ []))
lines_both f first ones one old mid new are is =
    is ∙ ap (λ items. items ++ map f (option_to_list (line_of first one))) are
    ∙ append_assoc old (map f (derived_lines first ones)) (map f (option_to_list (line_of first one)))
    ∙ ap (λ more. old ++ (map f (derived_lines first ones) ++ more)) (sym (one_of f first one))
    ∙ ap (λ more. old ++ more) (sym (map-append f (derived_lines first ones) (derived_lines first (one ∷ []))))
    ∙ ap (λ lines. old ++ map f lines) (sym (filter_map-append (line_of first) ones (one ∷ [])))

pub has_more_on : (first : List Spot) (derived : List Derived) (n : ℕ) (one : Derived) (old mid new : Completed) → n < length derived
    → one ≡ get_or derived n one → HasMore (derived_lines first (take n derived)) old mid → HasMore (option_to_list (line_of first one)) mid new
    → HasMore (derived_lines first (take (n + 1) derived)) old new
has_more_on first derived n one old mid new low is so more =
    subst (λ (ones : List Derived). HasMore (derived_lines first ones) old new)
    (sym (take_more derived n one low ∙ ap (λ (d : Derived). take n derived ++ d ∷ []) (sym is)))
    (record {
      entries = lines_both (λ (line : Line). line.entry) first (take n derived) one old.entries.items mid.entries.items new.entries.items so.entries more.entries;
      spots = lines_both (λ (line : Line). line.spot) first (take n derived) one old.spots.items mid.spots.items new.spots.items so.spots more.spots;
    })

-- So many written entries, and the derived ones before them, are in a journal; these are left.
pub record IsPartway (first spots : List Spot) (n : ℕ) (entries : List SourceEntry) (all left : List Derived) (full : Completed) : Type 0 where
  pub completes : Completes first spots 0 (take n entries) full.entries.items full.spots.items
  pub entries_are : full.entries.items ++ entries_of (full_lines first spots n (drop n entries) left) ≡ entries_of (full_lines first spots 0 entries all)
  pub spots_are : full.spots.items ++ spots_in (full_lines first spots n (drop n entries) left) ≡ spots_in (full_lines first spots 0 entries all)

pub partway_start : (first spots : List Spot) (entries : List SourceEntry) (all : List Derived) (full : Completed) → full.entries.items ≡ []
    → full.spots.items ≡ [] → IsPartway first spots 0 entries all all full
partway_start first spots entries all full none nowhere = record {
  completes = subst (λ es. Completes first spots 0 [] es full.spots.items) (sym none) (subst (λ ss. Completes first spots 0 [] [] ss) (sym nowhere) refl);
  entries_are = ap (λ es. es ++ entries_of (full_lines first spots 0 entries all)) none;
  spots_are = ap (λ ss. ss ++ spots_in (full_lines first spots 0 entries all)) nowhere;
}

lines_past : {A : Type 0} (f : Line → A) (first spots : List Spot) (n : ℕ) (entry : SourceEntry) (rest : List SourceEntry) (left : List Derived)
    (old mid new : List A) → mid ≡ old ++ map f (derived_lines first (first_ones (stands_by n) left))
    → new ≡ mid ++ f (record { entry = entry; spot = spot_at spots n }) ∷ []
    → new ++ map f (full_lines first spots (n + 1) rest (behind_first (stands_by n) left)) ≡ old ++ map f (full_lines first spots n (entry ∷ rest) left)
lines_past f first spots n entry rest left old mid new added kept =
    let here = f (record { entry = entry; spot = spot_at spots n }) in
    let before = derived_lines first (first_ones (stands_by n) left) in
    let behind = full_lines first spots (n + 1) rest (behind_first (stands_by n) left) in
    ap (λ items. items ++ map f behind) (kept ∙ ap (λ items. items ++ here ∷ []) added)
    ∙ append_assoc (old ++ map f before) (here ∷ []) (map f behind) ∙ append_assoc old (map f before) (here ∷ map f behind)
    ∙ ap (λ more. old ++ more) (sym (map-append f before ((record { entry = entry; spot = spot_at spots n }) ∷ behind)))

pub partway_on : (first spots : List Spot) (n : ℕ) (entries : List SourceEntry) (all left before next : List Derived) (full mid new : Completed)
    (one : SourceEntry) (spot : Spot) → n < length entries → one ≡ get_or entries n one → drop n entries ≡ one ∷ drop (n + 1) entries
    → spot ≡ spot_at spots n → IsPartway first spots n entries all left full → before ≡ first_ones (stands_by n) left
    → next ≡ behind_first (stands_by n) left → Grows first full mid → HasMore (derived_lines first before) full mid
    → new.entries.items ≡ mid.entries.items ++ one ∷ [] → new.spots.items ≡ mid.spots.items ++ spot ∷ []
    → IsPartway first spots (n + 1) entries all next new
partway_on first spots n entries all left before next full mid new one spot low is list here so first_are left_is grows more longer further = record {
  completes = kept_on first spots n entries mid.entries.items new.entries.items mid.spots.items new.spots.items one spot low is
      (grows spots (take n entries) so.completes) longer further here;
  entries_are = ap (λ ds. new.entries.items ++ entries_of (full_lines first spots (n + 1) (drop (n + 1) entries) ds)) left_is
      ∙ lines_past (λ (line : Line). line.entry) first spots n one (drop (n + 1) entries) left full.entries.items mid.entries.items new.entries.items
      (more.entries ∙ ap (λ ones. full.entries.items ++ entries_of (derived_lines first ones)) first_are) longer
      ∙ ap (λ es. full.entries.items ++ entries_of (full_lines first spots n es left)) (sym list) ∙ so.entries_are;
  spots_are = ap (λ ds. new.spots.items ++ spots_in (full_lines first spots (n + 1) (drop (n + 1) entries) ds)) left_is
      ∙ lines_past (λ (line : Line). line.spot) first spots n one (drop (n + 1) entries) left full.spots.items mid.spots.items new.spots.items
      (more.spots ∙ ap (λ ones. full.spots.items ++ spots_in (derived_lines first ones)) first_are) (further ∙ ap (λ s. mid.spots.items ++ s ∷ []) here)
      ∙ ap (λ es. full.spots.items ++ spots_in (full_lines first spots n es left)) (sym list) ∙ so.spots_are;
}

-- the derived entries that are left stand behind all written ones
pub record IsComplete (first spots : List Spot) (entries : List SourceEntry) (derived : List Derived) (full : Completed) : Type 0 where
  pub completes : Completes first spots 0 entries full.entries.items full.spots.items
  pub entries_are : full.entries.items ≡ entries_of (full_lines first spots 0 entries derived)
  pub spots_are : full.spots.items ≡ spots_in (full_lines first spots 0 entries derived)

pub partway_done : (first spots : List Spot) (n : ℕ) (entries : List SourceEntry) (all left : List Derived) (full new : Completed)
    → take n entries ≡ entries → drop n entries ≡ [] → IsPartway first spots n entries all left full → Grows first full new
    → HasMore (derived_lines first left) full new → IsComplete first spots entries all new
partway_done first spots n entries all left full new whole none so grows more = record {
  completes = subst (λ (es : List SourceEntry). Completes first spots 0 es new.entries.items new.spots.items) whole (grows spots (take n entries) so.completes);
  entries_are = more.entries ∙ ap (λ es. full.entries.items ++ entries_of (full_lines first spots n es left)) (sym none) ∙ so.entries_are;
  spots_are = more.spots ∙ ap (λ es. full.spots.items ++ spots_in (full_lines first spots n es left)) (sym none) ∙ so.spots_are;
}

-- the journal of a source is completed
pub completed_by : (net : Topology) (ports : List (List Entry)) (port_spots source_spots : List (List Spot)) (c : ℕ) (journal : SourceJournal)
    (full_entries entries : List SourceEntry) (first own : List Spot) (derived : List Derived) (made : Completed)
    → first ≡ spots_of port_spots (first_port (conn_at net c)) → own ≡ spots_of source_spots c → entries ≡ journal.entries
    → derived ≡ lacks ports (conn_at net c) journal.entries → Completes first own 0 entries made.entries.items made.spots.items
    → made.entries.items ≡ entries_of (full_lines first own 0 entries derived) → made.spots.items ≡ spots_in (full_lines first own 0 entries derived)
    → full_entries ≡ made.entries.items
    → CompletesAt net ports port_spots source_spots c journal (record { entries = full_entries }) made.spots.items
completed_by net ports port_spots source_spots c journal full_entries entries first own derived made first_is own_is entries_is derived_is completes are stand same =
    let there = spots_of port_spots (first_port (conn_at net c)) in
    let here = spots_of source_spots c in
    record {
      completes = subst (λ es. Completes there here 0 journal.entries es made.spots.items) (sym same)
          (subst (λ f. Completes f here 0 journal.entries made.entries.items made.spots.items) first_is
          (subst (λ o. Completes first o 0 journal.entries made.entries.items made.spots.items) own_is
          (subst (λ es. Completes first own 0 es made.entries.items made.spots.items) entries_is completes)));
      entries_are = same ∙ are ∙ ap (λ f. entries_of (full_lines f own 0 entries derived)) first_is
          ∙ ap (λ o. entries_of (full_lines there o 0 entries derived)) own_is ∙ ap (λ es. entries_of (full_lines there here 0 es derived)) entries_is
          ∙ ap (λ ds. entries_of (full_lines there here 0 journal.entries ds)) derived_is;
      spots_are = stand ∙ ap (λ f. spots_in (full_lines f own 0 entries derived)) first_is
          ∙ ap (λ o. spots_in (full_lines there o 0 entries derived)) own_is ∙ ap (λ es. spots_in (full_lines there here 0 es derived)) entries_is
          ∙ ap (λ ds. spots_in (full_lines there here 0 journal.entries ds)) derived_is;
    }
