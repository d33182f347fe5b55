-- Pieces of the input one after the other: which lines end in them, and which answers there are.
use Rattle.std.proofs.Common.{◌≡◌, ◌∙◌, inl, inr, ℕ, ◌+◌, ◌<◌, ◌≤◌, ◌++◌, List, [], ◌∷◌, length, Option, refl, sym, ap, subst, arith, append_assoc, length-append, cond, append-nil}
use Rattle.std.specs.Prelude.{◌==◌, Result, Ok, Err, OnOk}
use Rattle.std.specs.Io.KnownBytes.{Appends, Consumes}
use Rattle.std.proofs.KnownBytes.{Appends-trans, Consumes-trans, Consumes-nil, Appends-nil}
use Rattle.std.proofs.lemmas.Bool.{ne_eqb}
use Rattle.std.proofs.lemmas.List.Sums.{sum_by-append}
use Rattle.abt_text.specs.Words.{Lacks}
use Rattle.abt_lines.specs.Fed.{Fed, FedPart, EndedPart, IsUnanswered, IsUnended}
use Rattle.abt_lines.specs.Lines.{seen_of, seen_lines}
use Rattle.abt_lines.specs.Runs.{Adds, AnswersAll, Ends, Runs, Steps}
use Rattle.abt_lines.specs.Stopped.{feeds_in}
use Rattle.abt_lines.specs.declared.fault.LinesFault.{LinesFault}
use Rattle.abt_lines.specs.declared.fault.LinesFault.TheVariants.{Read, TooLong, Write, Memory}
use Rattle.abt_lines.proofs.Lines.{lacks_both, lacks_more, line_ends, text_ends}
use Rattle.abt_lines.proofs.Runs.{run_more, run_one}

feeds_none : (line : List ℕ) → Lacks 10 line → 0 ≡ feeds_in line
feeds_none [] free = refl
feeds_none (c ∷ cs) free = rw (ne_eqb c 10 (free 0 (omega arith))) (omega (arith, feeds_none cs (lacks_more c cs free)))

-- octets that end a line, which is answered
pub fed_line : {A : Type 0} (steps : Steps A) (s0 s1 : A) (n0 n1 : ℕ) (begun line old new : List ℕ)
    → Adds old new (λ said. steps s0 n0 (seen_of (begun ++ line)) said s1) → n1 ≡ n0 + 1 → Lacks 10 begun → Lacks 10 line
    → Fed steps s0 n0 begun (line ++ (10 ∷ [])) s1 n1 [] old new
fed_line steps s0 s1 n0 n1 begun line old new added counted free other = record {
  lines = seen_of (begun ++ line) ∷ [];
  said = added.0;
  added = added.1;
  runs = run_one steps s0 s1 n0 (seen_of (begun ++ line)) added.0 added.2;
  counted = counted;
  ended = omega (arith, feeds_none line other, sum_by-append (λ octet. cond (octet == 10) 1 0) line (10 ∷ []));
  left = λ rest. ap (λ t. seen_lines (begun ++ t)) (append_assoc line (10 ∷ []) rest) ∙ ap seen_lines (sym (append_assoc begun line (10 ∷ rest)))
      ∙ line_ends (begun ++ line) rest (lacks_both begun line free other);
}

-- octets that end no line
pub fed_rest : {A : Type 0} (steps : Steps A) (server : A) (number : ℕ) (begun begun_new octets text : List ℕ) → Lacks 10 octets
    → ((rest : List ℕ) → seen_lines (begun_new ++ rest) ≡ seen_lines (begun ++ (octets ++ rest)))
    → Fed steps server number begun octets server number begun_new text text
fed_rest steps server number begun begun_new octets text other same = record {
  lines = [];
  said = [];
  added = sym (append-nil text);
  runs = (refl, refl);
  counted = omega arith;
  ended = feeds_none octets other;
  left = λ rest. sym (same rest);
}

pub step_seen : {A : Type 0} (steps : Steps A) (s0 s1 : A) (number : ℕ) (seen other : Option (List ℕ)) (said : List ℕ) → seen ≡ other
    → steps s0 number seen said s1 → steps s0 number other said s1
step_seen steps s0 s1 number seen other said same step = subst (λ it. steps s0 number it said s1) same step

-- the text of an answer is added
pub answer_added : {T E : Type 0} (r : Result T E) (old new said : List ℕ) (Holds : List ℕ → Type 0) → OnOk r (new ≡ old ++ said) → Holds said
    → OnOk r (Adds old new Holds)
answer_added (Ok x) old new said Holds is holds = (said, is, holds)
answer_added (Err e) old new said Holds is holds = tt

-- nothing of the line had begun
pub answer_alone : {A T E : Type 0} (steps : Steps A) (r : Result T E) (s0 s1 : A) (number : ℕ) (begun line old new : List ℕ) → begun ≡ []
    → OnOk r (Adds old new (λ said. steps s0 number (seen_of line) said s1))
    → OnOk r (Adds old new (λ said. steps s0 number (seen_of (begun ++ line)) said s1))
answer_alone steps r s0 s1 number begun line old new none added =
    subst (λ b. OnOk r (Adds old new (λ said. steps s0 number (seen_of (b ++ line)) said s1))) (sym none) added

pub answer_joined : {A : Type 0} (steps : Steps A) (s0 s1 : A) (number other : ℕ) (line seen : List ℕ) (old new : List ℕ) → number ≡ other
    → seen_of seen ≡ seen_of line → Adds old new (λ said. steps s0 number (seen_of seen) said s1)
    → Adds old new (λ said. steps s0 other (seen_of line) said s1)
answer_joined steps s0 s1 number other line seen old new count same added =
    subst (λ n. Adds old new (λ said. steps s0 n (seen_of line) said s1)) count
    (subst (λ it. Adds old new (λ said. steps s0 number it said s1)) same added)

-- nothing is taken
pub fed_none : {A : Type 0} (steps : Steps A) (server : A) (number : ℕ) (begun text : List ℕ) → Fed steps server number begun [] server number begun text text
fed_none steps server number begun text = record {
  lines = [];
  said = [];
  added = sym (append-nil text);
  runs = (refl, refl);
  counted = omega arith;
  ended = refl;
  left = λ rest. refl;
}

-- a piece, and then another
pub fed_more : {A : Type 0} (steps : Steps A) (s0 s1 s2 : A) (n0 n1 n2 : ℕ) (b0 b1 b2 p1 p2 t0 t1 t2 : List ℕ)
    → Fed steps s0 n0 b0 p1 s1 n1 b1 t0 t1 → Fed steps s1 n1 b1 p2 s2 n2 b2 t1 t2 → Fed steps s0 n0 b0 (p1 ++ p2) s2 n2 b2 t0 t2
fed_more steps s0 s1 s2 n0 n1 n2 b0 b1 b2 p1 p2 t0 t1 t2 f g = record {
  lines = f.lines ++ g.lines;
  said = f.said ++ g.said;
  added = g.added ∙ ap (λ t. t ++ g.said) f.added ∙ append_assoc t0 f.said g.said;
  runs = run_more steps s0 s1 s2 n0 n1 f.lines g.lines f.said g.said f.counted f.runs g.runs;
  counted = omega (arith, f.counted, g.counted, length-append f.lines g.lines);
  ended = length-append f.lines g.lines ∙ ap (λ n. n + length g.lines) f.ended ∙ ap (λ n. feeds_in p1 + n) g.ended
      ∙ sym (sum_by-append (λ octet. cond (octet == 10) 1 0) p1 p2);
  left = λ rest. ap (λ r. seen_lines (b0 ++ r)) (append_assoc p1 p2 rest) ∙ f.left (p2 ++ rest) ∙ ap (λ l. f.lines ++ l) (g.left rest)
      ∙ sym (append_assoc f.lines g.lines (seen_lines (b2 ++ rest)));
}

-- the same behind a text
pub fed_behind : {A : Type 0} (steps : Steps A) (s0 s1 : A) (n0 n1 : ℕ) (b0 b1 piece before text : List ℕ)
    → Fed steps s0 n0 b0 piece s1 n1 b1 [] text → Fed steps s0 n0 b0 piece s1 n1 b1 before (before ++ text)
fed_behind steps s0 s1 n0 n1 b0 b1 piece before text f = record {
  lines = f.lines;
  said = f.said;
  added = ap (λ t. before ++ t) f.added;
  runs = f.runs;
  counted = f.counted;
  ended = f.ended;
  left = f.left;
}

-- A piece is cut: the lines that end before this rest of it are answered.
pub record IsCut {A : Type 0} (steps : Steps A) (s0 : A) (n0 : ℕ) (b0 piece rest : List ℕ) (s1 : A) (n1 : ℕ) (b1 text : List ℕ) : Type 0 where
  pub taken : List ℕ
  pub is : piece ≡ taken ++ rest
  pub fed : Fed steps s0 n0 b0 taken s1 n1 b1 [] text

pub cut_first : {A : Type 0} (steps : Steps A) (server : A) (number : ℕ) (begun piece text : List ℕ) → text ≡ []
    → IsCut steps server number begun piece piece server number begun text
cut_first steps server number begun piece text none = record {
  taken = [];
  is = refl;
  fed = subst (λ t. Fed steps server number begun [] server number begun [] t) (sym none) (fed_none steps server number begun []);
}

pub cut_more : {A : Type 0} (steps : Steps A) (s0 s1 s2 : A) (n0 n1 n2 : ℕ) (b0 b1 b2 piece rest line more t1 t2 : List ℕ)
    → IsCut steps s0 n0 b0 piece rest s1 n1 b1 t1 → rest ≡ line ++ (10 ∷ more)
    → Adds t1 t2 (λ said. steps s1 n1 (seen_of (b1 ++ line)) said s2) → n2 ≡ n1 + 1 → Lacks 10 b1 → Lacks 10 line → b2 ≡ []
    → IsCut steps s0 n0 b0 piece more s2 n2 b2 t2
cut_more steps s0 s1 s2 n0 n1 n2 b0 b1 b2 piece rest line more t1 t2 c parts added counted free other next = record {
  taken = c.taken ++ (line ++ (10 ∷ []));
  is = c.is ∙ ap (λ t. c.taken ++ t) (parts ∙ sym (append_assoc line (10 ∷ []) more)) ∙ sym (append_assoc c.taken (line ++ (10 ∷ [])) more);
  fed = subst (λ b. Fed steps s0 n0 b0 (c.taken ++ (line ++ (10 ∷ []))) s2 n2 b [] t2) (sym next)
      (fed_more steps s0 s1 s2 n0 n1 n2 b0 b1 [] c.taken (line ++ (10 ∷ [])) [] t1 t2 c.fed
      (fed_line steps s1 s2 n1 n2 b1 line t1 t2 added counted free other));
}

pub cut_whole : {A : Type 0} (steps : Steps A) (s0 s1 : A) (n0 n1 n2 : ℕ) (b0 b1 b2 piece rest text : List ℕ) → IsCut steps s0 n0 b0 piece rest s1 n1 b1 text
    → n2 ≡ n1 → Lacks 10 rest → ((more : List ℕ) → seen_lines (b2 ++ more) ≡ seen_lines (b1 ++ (rest ++ more))) → Fed steps s0 n0 b0 piece s1 n2 b2 [] text
cut_whole steps s0 s1 n0 n1 n2 b0 b1 b2 piece rest text c count other same =
    subst (λ n. Fed steps s0 n0 b0 piece s1 n b2 [] text) (sym count) (subst (λ p. Fed steps s0 n0 b0 p s1 n1 b2 [] text) (sym c.is)
    (fed_more steps s0 s1 s1 n0 n1 n1 b0 b1 b2 c.taken rest [] text text c.fed (fed_rest steps s1 n1 b1 b2 rest text other same)))

-- the next octet of the rest isn't taken
pub cut_part : {A : Type 0} (steps : Steps A) (s0 s1 : A) (n0 n1 : ℕ) (b0 b1 piece rest text new : List ℕ) (fault : LinesFault)
    → IsCut steps s0 n0 b0 piece rest s1 n1 b1 text → 0 < length rest → new ≡ text → IsUnanswered n1 fault → FedPart steps s0 n0 b0 piece new fault
cut_part steps s0 s1 n0 n1 b0 b1 piece [] text new fault c some same why = absurd (omega (arith, some))
cut_part steps s0 s1 n0 n1 b0 b1 piece (octet ∷ rest) text new fault c some same why = record {
  taken = c.taken;
  octet = octet;
  rest = rest;
  is = c.is;
  server_new = s1;
  number_new = n1;
  begun_new = b1;
  fed = subst (λ t. Fed steps s0 n0 b0 c.taken s1 n1 b1 [] t) (sym same) c.fed;
  why = why;
}

-- a line and its line feed are octets
pub line_some : (rest line more : List ℕ) → rest ≡ line ++ (10 ∷ more) → 0 < length rest
line_some rest line more is = omega (arith, ap (λ (t : List ℕ). length t) is, length-append line (10 ∷ more))

pub line_shorter : (rest line more : List ℕ) → rest ≡ line ++ (10 ∷ more) → length more < length rest
line_shorter rest line more is = omega (arith, ap (λ (t : List ℕ). length t) is, length-append line (10 ∷ more))

-- What was taken and what went out: exactly the answers to the lines that end in it.
pub record IsCounted {A : Type 0} (steps : Steps A) (first server : A) (number : ℕ) (begun : List ℕ) (left_old left_new old new : Option (List ℕ)) (reads : ℕ)
    : Type 0 where
  pub taken : List ℕ
  pub consumed : Consumes left_old left_new taken
  pub printed : List ℕ
  pub written : Appends old new printed
  pub fed : Fed steps first 1 [] taken server number begun [] printed
  pub low : reads ≤ length taken

pub counted_first : {A : Type 0} (steps : Steps A) (first : A) (number : ℕ) (begun : List ℕ) (left out : Option (List ℕ)) → number ≡ 1 → begun ≡ []
    → IsCounted steps first first number begun left left out out 0
counted_first steps first number begun left out is none = record {
  taken = [];
  consumed = Consumes-nil left;
  printed = [];
  written = Appends-nil out;
  fed = subst (λ b. Fed steps first 1 [] [] first number b [] []) (sym none)
      (subst (λ n. Fed steps first 1 [] [] first n [] [] []) (sym is) (fed_none steps first 1 [] []));
  low = omega arith;
}

-- the answers to a piece more, behind those that are there
pub fed_on : {A : Type 0} (steps : Steps A) (first s1 s2 : A) (n1 n2 : ℕ) (b1 b2 taken piece printed text : List ℕ)
    → Fed steps first 1 [] taken s1 n1 b1 [] printed → Fed steps s1 n1 b1 piece s2 n2 b2 [] text
    → Fed steps first 1 [] (taken ++ piece) s2 n2 b2 [] (printed ++ text)
fed_on steps first s1 s2 n1 n2 b1 b2 taken piece printed text f g =
    fed_more steps first s1 s2 1 n1 n2 [] b1 b2 taken piece [] printed (printed ++ text) f (fed_behind steps s1 s2 n1 n2 b1 b2 piece printed text g)

pub counted_more : {A : Type 0} (steps : Steps A) (first s1 s2 : A) (n1 n2 : ℕ) (b1 b2 : List ℕ) (l0 l1 l2 w0 w1 w2 : Option (List ℕ)) (piece text : List ℕ)
    (reads : ℕ) → IsCounted steps first s1 n1 b1 l0 l1 w0 w1 reads → Consumes l1 l2 piece → Appends w1 w2 text
    → Fed steps s1 n1 b1 piece s2 n2 b2 [] text → 0 < length piece → IsCounted steps first s2 n2 b2 l0 l2 w0 w2 (reads + 1)
counted_more steps first s1 s2 n1 n2 b1 b2 l0 l1 l2 w0 w1 w2 piece text reads c took went f some = record {
  taken = c.taken ++ piece;
  consumed = Consumes-trans l0 l1 l2 c.taken piece c.consumed took;
  printed = c.printed ++ text;
  written = Appends-trans w0 w1 w2 c.printed text c.written went;
  fed = fed_on steps first s1 s2 n1 n2 b1 b2 c.taken piece c.printed text c.fed f;
  low = omega (arith, length-append c.taken piece, c.low);
}

-- The last line isn't answered.

unended : (number : ℕ) (begun : List ℕ) (fault : LinesFault) → IsUnanswered number fault → 0 < length begun → IsUnended number begun fault
unended number begun Read why some = absurd why
unended number begun TooLong why some = (why, some)
unended number begun Write why some = absurd why
unended number begun Memory why some = tt

pub ended_before : {A : Type 0} (steps : Steps A) (server : A) (number : ℕ) (begun text : List ℕ) (fault : LinesFault) → text ≡ []
    → IsUnanswered number fault → 0 < length begun → EndedPart steps server number begun text fault
ended_before steps server number begun text fault none why some = record {
  server_new = server;
  lines = [];
  of = inl refl;
  runs = (none, refl);
  why = unended number begun fault why some;
}

-- it is answered
pub ended_line : {A T E : Type 0} (steps : Steps A) (r : Result T E) (s0 s1 : A) (number : ℕ) (begun old new : List ℕ)
    → OnOk r (Adds old new (λ said. steps s0 number (seen_of (begun ++ [])) said s1)) → Lacks 10 begun → 0 < length begun
    → OnOk r (Adds old new (λ said. Runs steps s0 number (seen_lines begun) said s1))
ended_line steps (Ok x) s0 s1 number begun old new added free some = (
  added.0,
  added.1,
  subst (λ l. Runs steps s0 number l added.0 s1) (ap (λ b. seen_of b ∷ []) (append-nil begun) ∙ sym (text_ends begun free some))
      (run_one steps s0 s1 number (seen_of (begun ++ [])) added.0 added.2),
)
ended_line steps (Err e) s0 s1 number begun old new added free some = tt

-- what is said behind it isn't there
pub ended_behind : {A : Type 0} (steps : Steps A) (s0 s1 : A) (number : ℕ) (begun old mid text : List ℕ)
    → Adds old mid (λ said. Runs steps s0 number (seen_lines begun) said s1) → old ≡ [] → text ≡ mid → EndedPart steps s0 number begun text Memory
ended_behind steps s0 s1 number begun old mid text added none same = record {
  server_new = s1;
  lines = seen_lines begun;
  of = inr refl;
  runs = subst (λ t. Runs steps s0 number (seen_lines begun) t s1) (sym (same ∙ added.1 ∙ ap (λ t. t ++ added.0) none)) added.2;
  why = tt;
}

-- it is answered, and what is said behind it is there
pub ended_all : {A : Type 0} (steps : Steps A) (ends : Ends A) (s0 s1 : A) (n0 n1 : ℕ) (begun old mid text behind : List ℕ)
    → Adds old mid (λ said. Runs steps s0 n0 (seen_lines begun) said s1) → old ≡ [] → n1 ≡ n0 + length (seen_lines begun)
    → text ≡ mid ++ behind → ends s1 n1 behind → AnswersAll steps ends s0 n0 (seen_lines begun) text s1
ended_all steps ends s0 s1 n0 n1 begun old mid text behind added none count is ended = record {
  answers = added.0;
  behind = behind;
  is = is ∙ ap (λ t. t ++ behind) (added.1 ∙ ap (λ t. t ++ added.0) none);
  runs = added.2;
  ended = subst (λ n. ends s1 n behind) count ended;
}
