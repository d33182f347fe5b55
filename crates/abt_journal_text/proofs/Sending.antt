-- Lines that go out one after the other.
use Rattle.std.proofs.Common.{◌≡◌, ℕ, zero, suc, ◌+◌, ◌<◌, ◌≤◌, ◌++◌, ◌∙◌, List, [], ◌∷◌, length, get_or, map, take, drop, drop-cons, refl, sym, ap, subst, arith, append_assoc, length-append}
use Rattle.std.specs.Prelude.{Option, Result, Ok, Err, All, Vec}
use Rattle.std.specs.declared.alloc.Global.{Global}
use Rattle.std.proofs.KnownBytes.{Appends-nil, Appends-trans}
use Rattle.std.proofs.lemmas.List.{drop_all}
use Rattle.std.proofs.lemmas.List.Elements.{All-append}
use Rattle.std.specs.Io.KnownBytes.{Appends}
use Rattle.abt_text.specs.Text.{Text}
use Rattle.abt_text.specs.Streams.{AppendsPrefix}
use Rattle.abt_journal_text.specs.Texts.{line_max, text_of}
use Rattle.abt_journal_text.specs.Lines.{IsShort, Sends, BreaksAt, Stops, Writes}
use Rattle.abt_journal_text.specs.declared.write_fault.WriteFault.{WriteFault}
use Rattle.abt_journal_text.specs.declared.write_fault.WriteFault.TheVariants as fault

pub text_both : (xs ys : List Text) → text_of (xs ++ ys) ≡ text_of xs ++ text_of ys
text_both [] ys = refl
text_both (line ∷ xs) ys = ap (λ (t : Text). line ++ 10 ∷ t) (text_both xs ys) ∙ sym (append_assoc line (10 ∷ text_of xs) (text_of ys))

-- what goes out behind some lines
behind : (xs ys : List Text) (more : Text) → text_of xs ++ (text_of ys ++ more) ≡ text_of (xs ++ ys) ++ more
behind xs ys more = sym (append_assoc (text_of xs) (text_of ys) more) ∙ ap (λ (t : Text). t ++ more) (sym (text_both xs ys))

breaks_behind : (why : WriteFault) (xs front : List Text) (line : Text) (a b c : Option Text) → Appends a b (text_of xs) → BreaksAt why front line b c
    → BreaksAt why (xs ++ front) line a c
breaks_behind fault.TooLong xs front line a b c p q =
    (q.0, subst (Appends a c) (sym (text_both xs front)) (Appends-trans a b c (text_of xs) (text_of front) p q.1))
breaks_behind fault.Write xs front line a b c p q =
    (q.0, q.1, q.2, subst (Appends a c) (behind xs front (take q.0 (line ++ 10 ∷ []))) (Appends-trans a b c (text_of xs) (text_of front ++ take q.0 (line ++ 10 ∷ [])) p q.3))
breaks_behind fault.Memory xs front line a b c p q = subst (Appends a c) (sym (text_both xs front)) (Appends-trans a b c (text_of xs) (text_of front) p q)

pub sends_both : (xs ys : List Text) (a b c : Option Text) → Sends xs a b → Sends ys b c → Sends (xs ++ ys) a c
sends_both xs ys a b c p q = record {
  sent = subst (Appends a c) (sym (text_both xs ys)) (Appends-trans a b c (text_of xs) (text_of ys) p.sent q.sent);
  short = All-append IsShort xs ys p.short q.short;
}

-- the first ones don't go out whole
pub stops_first : (xs ys : List Text) (why : WriteFault) (a b : Option Text) → Stops xs why a b → Stops (xs ++ ys) why a b
stops_first xs ys why a b p = record {
  front = p.front;
  line = p.line;
  rest = p.rest ++ ys;
  are = ap (λ (ls : List Text). ls ++ ys) p.are ∙ append_assoc p.front (p.line ∷ p.rest) ys;
  short = p.short;
  breaks = p.breaks;
}

-- the first ones go out, and the others don't
pub stops_second : (xs ys : List Text) (why : WriteFault) (a b c : Option Text) → Sends xs a b → Stops ys why b c → Stops (xs ++ ys) why a c
stops_second xs ys why a b c p q = record {
  front = xs ++ q.front;
  line = q.line;
  rest = q.rest;
  are = ap (λ (ls : List Text). xs ++ ls) q.are ∙ sym (append_assoc xs q.front (q.line ∷ q.rest));
  short = All-append IsShort xs q.front p.short q.short;
  breaks = breaks_behind why xs q.front q.line a b c p.sent q.breaks;
}

none_short : All IsShort []
none_short = λ k d low. absurd (omega (arith, low))

pub sends_none : (a : Option Text) → Sends [] a a
sends_none a = record { sent = Appends-nil a; short = none_short }

one_short : (line : Text) → length line ≤ line_max → All IsShort (line ∷ [])
one_short line short zero d low = short
one_short line short (suc k) d low = absurd (omega (arith, low))

-- a line goes out
pub line_sent : (line text : Text) (a b : Option Text) → length line ≤ line_max → text ≡ line ++ 10 ∷ [] → Appends a b text → Sends (line ∷ []) a b
line_sent line text a b short is sent = record { sent = subst (Appends a b) is sent; short = one_short line short }

-- it is too long
pub line_long : (line : Text) (more : List Text) (why : WriteFault) (a : Option Text) → why ≡ fault.TooLong → line_max < length line → Stops (line ∷ more) why a a
line_long line more why a is long = record {
  front = [];
  line = line;
  rest = more;
  are = refl;
  short = none_short;
  breaks = subst (λ (w : WriteFault). BreaksAt w [] line a a) (sym is) (long, Appends-nil a);
}

-- there is no memory for it
pub line_unmade : (line : Text) (more : List Text) (why : WriteFault) (a : Option Text) → why ≡ fault.Memory → Stops (line ∷ more) why a a
line_unmade line more why a is = record {
  front = [];
  line = line;
  rest = more;
  are = refl;
  short = none_short;
  breaks = subst (λ (w : WriteFault). BreaksAt w [] line a a) (sym is) (Appends-nil a);
}

-- a part of it goes out
pub line_cut : (line text : Text) (more : List Text) (why : WriteFault) (a b : Option Text) → why ≡ fault.Write → length line ≤ line_max
    → text ≡ line ++ 10 ∷ [] → AppendsPrefix a b text → Stops (line ∷ more) why a b
line_cut line text more why a b is within same p =
    let sum = length-append line (10 ∷ []) in
    let long : length text ≡ length (line ++ 10 ∷ []) = ap length same in
    let short = p.short in record {
      front = [];
      line = line;
      rest = more;
      are = refl;
      short = none_short;
      breaks = subst (λ (w : WriteFault). BreaksAt w [] line a b) (sym is) (p.count, omega arith, within, subst (λ (t : Text). Appends a b (take p.count t)) same p.front);
    }

-- What becomes of the lines that are left becomes of all.
pub record GoesOut (all : List Text) (old : Option Text) (left : List Text) (now : Option Text) : Type 0 where
  pub sends : (new : Option Text) → Sends left now new → Sends all old new
  pub stops : (why : WriteFault) (new : Option Text) → Stops left why now new → Stops all why old new

pub goes_out : (all : List Text) (old : Option Text) → GoesOut all old all old
goes_out all old = record { sends = λ new p. p; stops = λ why new p. p }

pub goes_out_more : (all first left rest : List Text) (old now next : Option Text) → left ≡ first ++ rest → GoesOut all old left now → Sends first now next
    → GoesOut all old rest next
goes_out_more all first left rest old now next is g p = record {
  sends = λ new q. g.sends new (subst (λ (ls : List Text). Sends ls now new) (sym is) (sends_both first rest now next new p q));
  stops = λ why new q. g.stops why new (subst (λ (ls : List Text). Stops ls why now new) (sym is) (stops_second first rest why now next new p q));
}

pub goes_out_stops : (all first left rest : List Text) (why : WriteFault) (old now new : Option Text) → left ≡ first ++ rest → GoesOut all old left now
    → Stops first why now new → Stops all why old new
goes_out_stops all first left rest why old now new is g p =
    g.stops why new (subst (λ (ls : List Text). Stops ls why now new) (sym is) (stops_first first rest why now new p))

pub goes_out_done : (all left : List Text) (old now : Option Text) → left ≡ [] → GoesOut all old left now → Sends all old now
goes_out_done all left old now is g = g.sends now (subst (λ (ls : List Text). Sends ls now now) (sym is) (sends_none now))

-- some lines go out, and then what becomes of the others becomes of all
pub writes_behind : (r : Result (Unit {0}) WriteFault) (first others : List Text) (a b c : Option Text) → Sends first a b → Writes r others b c
    → Writes r (first ++ others) a c
writes_behind (Ok done) first others a b c p w = sends_both first others a b c p w
writes_behind (Err why) first others a b c p w = stops_second first others why a b c p w

-- lists without where they lie in memory
abbrev pub lists_in : {A : Type 0} → List (Vec A Global) → List (List A)
lists_in lists = map (λ list. list.items) lists

-- the list at a place, and those behind it
pub next_of : {A : Type 0} (xs : List A) (i : ℕ) (x : A) → i < length xs → x ≡ get_or xs i x → drop i xs ≡ x ∷ drop (i + 1) xs
next_of xs i x low is = drop-cons xs i x low ∙ ap (λ y. y ∷ drop (suc i) xs) (sym is) ∙ (let same : suc i ≡ i + 1 = omega arith in ap (λ (n : ℕ). x ∷ drop n xs) same)

pub none_left : {A : Type 0} (xs : List A) (i : ℕ) → length xs ≤ i → drop i xs ≡ []
none_left xs i past = drop_all i xs past
