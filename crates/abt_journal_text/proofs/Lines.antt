-- Reading that goes on behind an octet, a line or a piece.
use Rattle.std.proofs.Common.{◌≡◌, ◌≢◌, ◌⊎◌, inl, inr, ℕ, zero, suc, ◌+◌, ◌<◌, ◌≤◌, ◌++◌, List, [], ◌∷◌, length, take, drop, get_or, refl, sym, ap, ◌∙◌, subst, arith, append_assoc, append-nil, length-append, true, false}
use Rattle.std.proofs.lemmas.List.{take_more, take_all}
use Rattle.std.specs.Prelude.{slice_index}
use Rattle.abt_text.specs.Text.{Text}
use Rattle.abt_text.specs.Words.{Lacks}
use Rattle.abt_journal_text.specs.Books.{Told, with_cut}
use Rattle.abt_journal_text.specs.Entering.{TakesLine, RefusesLine, IsOwn}
use Rattle.abt_journal_text.specs.Texts.{below, line_max, text_of, IsLine, TakesAll, EndsWith, Reads, Fails, IsWrong, GoesOn}
use Rattle.abt_journal_text.specs.declared.spot.Spot.{Spot}
use Rattle.abt_journal_text.specs.declared.fault.Cause.{Cause}
use Rattle.abt_journal_text.specs.declared.fault.Cause.TheVariants as cause
use Rattle.abt_journal_text.specs.declared.fault.TextFault.{TextFault}

pub goes_on_stays : (spot : Spot) (told : Told) (begun : Text) → GoesOn spot told begun [] spot told begun
goes_on_stays spot told begun = record { reads = λ rest after r. r; fails = λ rest fault f. f }

-- first one piece, and then another
pub goes_on_more : (s0 s1 s2 : Spot) (t0 t1 t2 : Told) (b0 b1 b2 p q : Text) → GoesOn s0 t0 b0 p s1 t1 b1 → GoesOn s1 t1 b1 q s2 t2 b2
    → GoesOn s0 t0 b0 (p ++ q) s2 t2 b2
goes_on_more s0 s1 s2 t0 t1 t2 b0 b1 b2 p q f g = record {
  reads = λ rest after r. subst (λ (t : Text). Reads s0 t0 (b0 ++ t) after) (sym (append_assoc p q rest)) (f.reads (q ++ rest) after (g.reads rest after r));
  fails = λ rest fault r. subst (λ (t : Text). Fails s0 t0 (b0 ++ t) fault) (sym (append_assoc p q rest)) (f.fails (q ++ rest) fault (g.fails rest fault r));
}

-- an octet is added to the line
pub octet_goes_on : (spot next : Spot) (told : Told) (begun more : Text) (octet : ℕ) → more ≡ begun ++ octet ∷ [] → next ≡ spot
    → GoesOn spot told begun (octet ∷ []) next told more
octet_goes_on spot next told begun more octet is same = record {
  reads = λ rest after r. subst (λ (t : Text). Reads spot told t after) (ap (λ (t : Text). t ++ rest) is ∙ append_assoc begun (octet ∷ []) rest)
      (subst (λ (s : Spot). Reads s told (more ++ rest) after) same r);
  fails = λ rest fault r. subst (λ (t : Text). Fails spot told t fault) (ap (λ (t : Text). t ++ rest) is ∙ append_assoc begun (octet ∷ []) rest)
      (subst (λ (s : Spot). Fails s told (more ++ rest) fault) same r);
}

pub text_more : (line : Text) (lines : List Text) (rest : Text) → text_of (line ∷ lines) ++ rest ≡ line ++ (10 ∷ (text_of lines ++ rest))
text_more line lines rest = append_assoc line (10 ∷ text_of lines) rest

pub further : (spot : Spot) (lines : List Text) (line : Text) → below (below spot 1) (length lines) ≡ below spot (length (line ∷ lines))
further spot lines line =
    let more : spot.line + 1 + length lines ≡ spot.line + suc (length lines) = omega arith in ap (λ (n : ℕ). record { text = spot.text; line = n }) more

reads_line : (spot : Spot) (told then : Told) (line rest : Text) (after : Told) → TakesLine spot told line then → IsLine line
    → Reads (below spot 1) then rest after → Reads spot told (line ++ 10 ∷ rest) after
reads_line spot told then line rest after takes whole r = record {
  lines = line ∷ r.lines;
  rest = r.rest;
  are = ap (λ (t : Text). line ++ 10 ∷ t) r.are ∙ sym (text_more line r.lines r.rest);
  before = r.before;
  taken = (then, whole, takes, r.taken);
  ends = subst (λ (s : Spot). EndsWith s r.before r.rest after) (further spot r.lines line) r.ends;
}

fails_line : (spot : Spot) (told then : Told) (line rest : Text) (fault : TextFault) → TakesLine spot told line then → IsLine line
    → Fails (below spot 1) then rest fault → Fails spot told (line ++ 10 ∷ rest) fault
fails_line spot told then line rest fault takes whole r = record {
  lines = line ∷ r.lines;
  rest = r.rest;
  are = ap (λ (t : Text). line ++ 10 ∷ t) r.are ∙ sym (text_more line r.lines r.rest);
  before = r.before;
  taken = (then, whole, takes, r.taken);
  here = r.here ∙ further spot r.lines line;
  why = r.why;
}

-- a line is taken in
pub line_goes_on : (spot next : Spot) (told then : Told) (begun more : Text) → TakesLine spot told begun then → IsLine begun → next ≡ below spot 1
    → more ≡ [] → GoesOn spot told begun (10 ∷ []) next then more
line_goes_on spot next told then begun more takes whole is empty = record {
  reads = λ rest after r. reads_line spot told then begun rest after takes whole
      (subst (λ (t : Text). Reads (below spot 1) then (t ++ rest) after) empty (subst (λ (s : Spot). Reads s then (more ++ rest) after) is r));
  fails = λ rest fault r. fails_line spot told then begun rest fault takes whole
      (subst (λ (t : Text). Fails (below spot 1) then (t ++ rest) fault) empty (subst (λ (s : Spot). Fails s then (more ++ rest) fault) is r));
}

here_still : (spot : Spot) → spot ≡ below spot 0
here_still spot = let same : spot.line ≡ spot.line + 0 = omega arith in ap (λ (n : ℕ). record { text = spot.text; line = n }) same

-- a fault of the line that stands here
fails_here : (spot : Spot) (told : Told) (text : Text) (fault : TextFault) → fault.spot ≡ spot → IsWrong told text fault.cause → Fails spot told text fault
fails_here spot told text fault here why = record {
  lines = [];
  rest = text;
  are = refl;
  before = told;
  taken = refl;
  here = here ∙ here_still spot;
  why = why;
}

-- it is refused
pub refused_here : (spot : Spot) (told : Told) (line rest : Text) (fault : TextFault) → fault.spot ≡ spot → RefusesLine told line fault.cause → IsLine line
    → Fails spot told (line ++ 10 ∷ rest) fault
refused_here spot told line rest fault here why whole =
    fails_here spot told (line ++ 10 ∷ rest) fault here (inr (record { line = line; more = rest; is = refl; whole = whole; refused = why }))

lacks_one : (octet : ℕ) → octet ≢ 10 → (i : ℕ) → i < 1 → slice_index (octet ∷ []) i ≢ 10
lacks_one octet other zero l = other
lacks_one octet other (suc i) l = absurd (omega arith)

lacks_more : (b : Text) (octet : ℕ) → Lacks 10 b → octet ≢ 10 → (i : ℕ) → i < length (b ++ octet ∷ []) → slice_index (b ++ octet ∷ []) i ≢ 10
lacks_more [] octet free other i l = lacks_one octet other i l
lacks_more (c ∷ b) octet free other zero l = free 0 (omega arith)
lacks_more (c ∷ b) octet free other (suc i) l = lacks_more b octet (λ j m. free (suc j) (omega arith)) other i (omega arith)

front_of : (b rest : Text) (octet : ℕ) → take (suc (length b)) (b ++ octet ∷ rest) ≡ b ++ octet ∷ []
front_of [] rest octet = refl
front_of (c ∷ b) rest octet = ap (λ (t : Text). c ∷ t) (front_of b rest octet)

front_of_line : (n : ℕ) (b rest : Text) (octet : ℕ) → length b ≡ n → take (n + 1) (b ++ octet ∷ rest) ≡ b ++ octet ∷ []
front_of_line n b rest octet len =
    let more : n + 1 ≡ suc (length b) = omega arith in ap (λ (m : ℕ). take m (b ++ octet ∷ rest)) more ∙ front_of b rest octet

longer : (n : ℕ) (b rest : Text) (octet : ℕ) → length b ≡ n → n < length (b ++ octet ∷ rest)
longer n b rest octet len = let sum = length-append b (octet ∷ rest) in omega arith

-- the line is too long
pub long_here : (spot : Spot) (told : Told) (begun rest : Text) (octet : ℕ) (fault : TextFault) → fault.spot ≡ spot → fault.cause ≡ cause.TooLong
    → length begun ≡ line_max → Lacks 10 begun → octet ≢ 10 → Fails spot told (begun ++ octet ∷ rest) fault
long_here spot told begun rest octet fault here is len free other = fails_here spot told (begun ++ octet ∷ rest) fault here
    (inl (is, longer line_max begun rest octet len, subst (Lacks 10) (sym (front_of_line line_max begun rest octet len)) (lacks_more begun octet free other)))

-- the text ends here
pub reads_end : (spot : Spot) (told : Told) (begun : Text) → begun ≡ [] → Reads spot told begun told
reads_end spot told begun empty = record { lines = []; rest = []; are = empty; before = told; taken = refl; ends = inl (refl, refl) }

-- the text ends in the middle of a line
pub reads_cut : (spot : Spot) (told after : Told) (begun : Text) → begun ≢ [] → IsLine begun → after ≡ with_cut spot told → Reads spot told begun after
reads_cut spot told after begun some whole is = record {
  lines = [];
  rest = begun;
  are = refl;
  before = told;
  taken = refl;
  ends = inr (some, whole, is ∙ ap (λ (s : Spot). with_cut s told) (here_still spot));
}

-- a piece, up to an octet of it, that octet, and what comes behind it
split : (piece : Text) (i : ℕ) → i < length piece → piece ≡ take i piece ++ (get_or piece i 0 ∷ drop (suc i) piece)
split [] i low = absurd (omega arith)
split (c ∷ p) zero low = refl
split (c ∷ p) (suc i) low = ap (λ (t : Text). c ∷ t) (split p i (omega arith))

rejoined : (piece rest : Text) (i : ℕ) → i < length piece → take i piece ++ (get_or piece i 0 ∷ (drop (suc i) piece ++ rest)) ≡ piece ++ rest
rejoined piece rest i low =
    sym (append_assoc (take i piece) (get_or piece i 0 ∷ drop (suc i) piece) rest) ∙ ap (λ (t : Text). t ++ rest) (sym (split piece i low))

-- the next octet of a piece
pub goes_on_take : (s0 s1 s2 : Spot) (t0 t1 t2 : Told) (b0 b1 b2 piece : Text) (i : ℕ) → GoesOn s0 t0 b0 (take i piece) s1 t1 b1 → i < length piece
    → GoesOn s1 t1 b1 (get_or piece i 0 ∷ []) s2 t2 b2 → GoesOn s0 t0 b0 (take (i + 1) piece) s2 t2 b2
goes_on_take s0 s1 s2 t0 t1 t2 b0 b1 b2 piece i f low g =
    subst (λ (t : Text). GoesOn s0 t0 b0 t s2 t2 b2) (sym (take_more piece i 0 low))
    (goes_on_more s0 s1 s2 t0 t1 t2 b0 b1 b2 (take i piece) (get_or piece i 0 ∷ []) f g)

-- all of a piece
pub goes_on_all : (s0 s1 : Spot) (t0 t1 : Told) (b0 b1 piece : Text) (i : ℕ) → length piece ≤ i → GoesOn s0 t0 b0 (take i piece) s1 t1 b1 → GoesOn s0 t0 b0 piece s1 t1 b1
goes_on_all s0 s1 t0 t1 b0 b1 piece i past f = subst (λ (t : Text). GoesOn s0 t0 b0 t s1 t1 b1) (take_all i piece past) f

-- an octet of a piece shows a fault
pub fails_in_piece : (s0 s1 : Spot) (t0 t1 : Told) (b0 b1 piece : Text) (i : ℕ) (fault : TextFault) → GoesOn s0 t0 b0 (take i piece) s1 t1 b1 → i < length piece
    → IsOwn fault.cause ⊎ ((rest : Text) → Fails s1 t1 (b1 ++ (get_or piece i 0 ∷ rest)) fault)
    → IsOwn fault.cause ⊎ ((rest : Text) → Fails s0 t0 (b0 ++ (piece ++ rest)) fault)
fails_in_piece s0 s1 t0 t1 b0 b1 piece i fault on low (inl own) = inl own
fails_in_piece s0 s1 t0 t1 b0 b1 piece i fault on low (inr f) = inr (λ rest.
    subst (λ (t : Text). Fails s0 t0 (b0 ++ t) fault) (rejoined piece rest i low)
    (on.fails (get_or piece i 0 ∷ (drop (suc i) piece ++ rest)) fault (f (drop (suc i) piece ++ rest))))

-- a line ends, and is taken in as it was seen
pub seen_goes_on : (spot next : Spot) (told then : Told) (begun seen more : Text) → seen ≡ begun → TakesLine spot told seen then → IsLine begun
    → next ≡ below spot 1 → more ≡ [] → GoesOn spot told begun (10 ∷ []) next then more
seen_goes_on spot next told then begun seen more same takes whole is empty =
    line_goes_on spot next told then begun more (subst (λ (t : Text). TakesLine spot told t then) same takes) whole is empty

-- a line ends, and isn't taken in
pub seen_fails : (spot : Spot) (told : Told) (begun seen : Text) (why : Cause) (fault : TextFault) → fault ≡ record { spot = spot; cause = why } → seen ≡ begun
    → IsLine begun → IsOwn why ⊎ RefusesLine told seen why → IsOwn fault.cause ⊎ ((rest : Text) → Fails spot told (begun ++ 10 ∷ rest) fault)
seen_fails spot told begun seen why fault is same whole (inl own) = inl (subst IsOwn (sym (ap (λ (f : TextFault). f.cause) is)) own)
seen_fails spot told begun seen why fault is same whole (inr refused) = inr (λ rest.
    refused_here spot told begun rest fault (ap (λ (f : TextFault). f.spot) is)
    (subst (λ (c : Cause). RefusesLine told begun c) (sym (ap (λ (f : TextFault). f.cause) is)) (subst (λ (t : Text). RefusesLine told t why) same refused)) whole)

-- an octet isn't added
pub added_fails : (spot : Spot) (told : Told) (begun : Text) (octet : ℕ) (why : Cause) (fault : TextFault) → fault ≡ record { spot = spot; cause = why }
    → Lacks 10 begun → octet ≢ 10 → (why ≡ cause.Memory) ⊎ ((why ≡ cause.TooLong) × (length begun ≡ line_max))
    → IsOwn fault.cause ⊎ ((rest : Text) → Fails spot told (begun ++ octet ∷ rest) fault)
added_fails spot told begun octet why fault is free other (inl own) =
    inl (subst IsOwn (sym (ap (λ (f : TextFault). f.cause) is ∙ own)) tt)
added_fails spot told begun octet why fault is free other (inr long) = inr (λ rest.
    long_here spot told begun rest octet fault (ap (λ (f : TextFault). f.spot) is) (ap (λ (f : TextFault). f.cause) is ∙ long.0) long.1 free other)
