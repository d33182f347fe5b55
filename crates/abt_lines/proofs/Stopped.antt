-- Why no more lines are answered.
use Rattle.std.proofs.Common.{◌≡◌, ◌∙◌, inl, inr, ℕ, ◌+◌, ◌<◌, ◌≤◌, ◌^◌, ◌++◌, List, [], ◌∷◌, length, take, Option, refl, sym, ap, subst, arith, append_assoc, append-nil, length-append}
use Rattle.std.specs.Prelude.{◌⊎◌, ◌==◌, Result, Ok, Err, IfErr, OnOk}
use Rattle.std.specs.Io.KnownBytes.{Appends, Consumes, IsAtEnd, Keeps}
use Rattle.std.proofs.KnownBytes.{Appends-trans, Consumes-trans, Consumes-kept}
use Rattle.std.proofs.lemmas.Bool.{cases_Bool}
use Rattle.std.proofs.lemmas.List.{length-map}
use Rattle.std.proofs.lemmas.List.Sums.{count_by-le-length}
use Rattle.std.proofs.Math.Seq.{take-append_seam, take-append-add}
use Rattle.abt_text.specs.Streams.{AppendsPrefix}
use Rattle.abt_text.specs.Words.{with_octet}
use Rattle.abt_lines.specs.Fed.{Fed, FedPart, EndedPart}
use Rattle.abt_lines.specs.Lines.{lines_of, seen_of, seen_lines}
use Rattle.abt_lines.specs.Runs.{AnswersAll, AnswersFirst, Ends, IsMade, Runs, Steps}
use Rattle.abt_lines.specs.Served.{AppendsFront, ServesAll, ServesPart}
use Rattle.abt_lines.specs.Stopped.{IsCutShort, IsStopped, StopsBy, feeds_in}
use Rattle.abt_lines.specs.declared.fault.LinesFault.{LinesFault}
use Rattle.abt_lines.specs.declared.fault.LinesFault.TheVariants.{Read, TooLong, Write, Memory}
use Rattle.abt_lines.proofs.Fed.{IsCounted, fed_on}
use Rattle.abt_lines.proofs.Pieces.{at_end, front_behind, front_of_whole, of_source, took_all}
use Rattle.abt_lines.proofs.Runs.{Lines, run_more}

-- Texts that aren't empty have a line.
with_some : (octet : ℕ) (lines : List (List ℕ)) → 0 < length (with_octet octet lines)
with_some octet [] = omega arith
with_some octet (line ∷ lines) = omega arith

lines_some : (octet : ℕ) (text : List ℕ) → 0 < length (lines_of (octet ∷ text))
lines_some octet text = elim (cases_Bool (octet == 10)) [
  | inl is ↦ rw is (omega arith)
  | inr other ↦ rw other (with_some octet (lines_of text))
]

with_no_more : (octet : ℕ) (lines : List (List ℕ)) → length (with_octet octet lines) ≤ length lines + 1
with_no_more octet [] = omega arith
with_no_more octet (line ∷ lines) = omega arith

-- no more lines than octets
lines_low : (text : List ℕ) → length (lines_of text) ≤ length text
lines_low [] = omega arith
lines_low (octet ∷ text) = elim (cases_Bool (octet == 10)) [
  | inl is ↦ rw is (omega (arith, lines_low text))
  | inr other ↦ rw other (omega (arith, lines_low text, with_no_more octet (lines_of text)))
]

seen_some : (begun : List ℕ) (octet : ℕ) (rest : List ℕ) → 0 < length (seen_lines (begun ++ (octet ∷ rest)))
seen_some [] octet rest = omega (arith, length-map (lines_of (octet ∷ rest)) seen_of, lines_some octet rest)
seen_some (c ∷ cs) octet rest = omega (arith, length-map (lines_of (c ∷ (cs ++ (octet ∷ rest)))) seen_of, lines_some c (cs ++ (octet ∷ rest)))

seen_begun : (begun : List ℕ) → 0 < length begun → 0 < length (seen_lines begun)
seen_begun [] some = absurd (omega (arith, some))
seen_begun (c ∷ cs) some = omega (arith, length-map (lines_of (c ∷ cs)) seen_of, lines_some c cs)

taken_first : (n : ℕ) (all ended more : Lines) → all ≡ ended ++ more → n ≡ length ended → take n all ≡ ended
taken_first n all ended more is count = ap (λ k. take k all) count ∙ ap (λ l. take (length ended) l) is ∙ take-append_seam ended more

-- lines that end in a front of what was taken
pub first_lines : {A : Type 0} (steps : Steps A) (first server : A) (number : ℕ) (begun front rest all text : List ℕ)
    → Fed steps first 1 [] front server number begun [] text → all ≡ front ++ rest → AnswersFirst steps first (seen_lines all) (feeds_in front) text
first_lines steps first server number begun front rest all text f is =
    let parts : seen_lines all ≡ f.lines ++ seen_lines (begun ++ rest) = ap seen_lines is ∙ f.left rest in
    let same = taken_first (feeds_in front) (seen_lines all) f.lines (seen_lines (begun ++ rest)) parts (sym f.ended) in
    record {
      server = server;
      within = omega (arith, ap (λ (l : Lines). length l) parts, length-append f.lines (seen_lines (begun ++ rest)), f.ended);
      runs = subst (λ l. Runs steps first 1 l text server) (sym same) (subst (λ t. Runs steps first 1 f.lines t server) (sym f.added) f.runs);
    }

-- The reader failed.
pub stopped_read : {A : Type 0} (steps : Steps A) (ends : Ends A) (first server : A) (number : ℕ) (begun : List ℕ) (l0 l1 l2 w0 w1 : Option (List ℕ)) (reads : ℕ)
    → IsCounted steps first server number begun l0 l1 w0 w1 reads → Keeps l1 l2 → IsStopped steps ends first l0 l2 w0 w1 Read
stopped_read steps ends first server number begun l0 l1 l2 w0 w1 reads c kept = record {
  taken = c.taken;
  consumed = Consumes-kept l0 l1 l2 c.taken c.consumed kept;
  printed = c.printed;
  written = c.written;
  why = first_lines steps first server number begun c.taken [] c.taken c.printed c.fed (sym (append-nil c.taken));
}

-- There were as many reads as there may be.
pub stopped_long : {A : Type 0} (steps : Steps A) (ends : Ends A) (first server : A) (number : ℕ) (begun : List ℕ) (l0 l1 w0 w1 : Option (List ℕ)) (reads : ℕ)
    → IsCounted steps first server number begun l0 l1 w0 w1 reads → 2 ^ 64 ≤ reads + 1 → IsStopped steps ends first l0 l1 w0 w1 TooLong
stopped_long steps ends first server number begun l0 l1 w0 w1 reads c many = record {
  taken = c.taken;
  consumed = c.consumed;
  printed = c.printed;
  written = c.written;
  why = ((feeds_in c.taken, first_lines steps first server number begun c.taken [] c.taken c.printed c.fed (sym (append-nil c.taken))), omega (arith, c.low, many));
}

-- all that was taken, up to the octet that wasn't, and behind it
part_is : {A : Type 0} (steps : Steps A) (s : A) (n : ℕ) (b taken piece text : List ℕ) (fault : LinesFault) (p : FedPart steps s n b piece text fault)
    → taken ++ piece ≡ (taken ++ p.taken) ++ (p.octet ∷ p.rest)
part_is steps s n b taken piece text fault p = ap (λ t. taken ++ t) p.is ∙ sym (append_assoc taken p.taken (p.octet ∷ p.rest))

fed_whole : {A : Type 0} (steps : Steps A) (first server : A) (number : ℕ) (begun taken piece printed text : List ℕ) (fault : LinesFault)
    → Fed steps first 1 [] taken server number begun [] printed → (p : FedPart steps server number begun piece text fault)
    → Fed steps first 1 [] (taken ++ p.taken) p.server_new p.number_new p.begun_new [] (printed ++ text)
fed_whole steps first server number begun taken piece printed text fault f p =
    fed_on steps first server p.server_new number p.number_new begun p.begun_new taken p.taken printed text f p.fed

first_of_part : {A : Type 0} (steps : Steps A) (first server : A) (number : ℕ) (begun taken piece rest all printed text : List ℕ) (fault : LinesFault)
    → Fed steps first 1 [] taken server number begun [] printed → (p : FedPart steps server number begun piece text fault) → all ≡ (taken ++ piece) ++ rest
    → AnswersFirst steps first (seen_lines all) (feeds_in (taken ++ p.taken)) (printed ++ text)
first_of_part steps first server number begun taken piece rest all printed text fault f p is =
    first_lines steps first p.server_new p.number_new p.begun_new (taken ++ p.taken) ((p.octet ∷ p.rest) ++ rest) all (printed ++ text)
    (fed_whole steps first server number begun taken piece printed text fault f p)
    (is ∙ ap (λ t. t ++ rest) (part_is steps server number begun taken piece text fault p) ∙ append_assoc (taken ++ p.taken) (p.octet ∷ p.rest) rest)

-- A line that ends or begins in a piece isn't answered.
why_part : {A : Type 0} (steps : Steps A) (ends : Ends A) (first server : A) (number : ℕ) (begun taken piece printed text : List ℕ) (left : Option (List ℕ)) (fault : LinesFault)
    → Fed steps first 1 [] taken server number begun [] printed → FedPart steps server number begun piece text fault
    → StopsBy steps ends first left (taken ++ piece) (printed ++ text) fault
why_part steps ends first server number begun taken piece printed text left Read f p = absurd p.why
why_part steps ends first server number begun taken piece printed text left Write f p = absurd p.why
why_part steps ends first server number begun taken piece printed text left TooLong f p =
    let whole = fed_whole steps first server number begun taken piece printed text TooLong f p in
    let few = count_by-le-length (λ (octet : ℕ). octet == 10) (taken ++ p.taken) in
    let size = ap (λ (t : List ℕ). length t) (part_is steps server number begun taken piece text TooLong p) in
    let sum = length-append (taken ++ p.taken) (p.octet ∷ p.rest) in (
      (
        feeds_in (taken ++ p.taken),
        first_of_part steps first server number begun taken piece [] (taken ++ piece) printed text TooLong f p
            (sym (append-nil (taken ++ piece))),
      ),
      omega (arith, whole.counted, whole.ended, few, size, sum, p.why),
    )
why_part steps ends first server number begun taken piece printed text left Memory f p =
    let whole = fed_whole steps first server number begun taken piece printed text Memory f p in
    let all = taken ++ piece in
    let parts : seen_lines all ≡ whole.lines ++ seen_lines (p.begun_new ++ (p.octet ∷ p.rest)) =
    ap seen_lines (part_is steps server number begun taken piece text Memory p) ∙ whole.left (p.octet ∷ p.rest) in
    let size = ap (λ (l : Lines). length l) parts in
    let sum = length-append whole.lines (seen_lines (p.begun_new ++ (p.octet ∷ p.rest))) in
    let more = seen_some p.begun_new p.octet p.rest in (
      feeds_in (taken ++ p.taken),
      first_of_part steps first server number begun taken piece [] (taken ++ piece) printed text Memory f p (sym (append-nil (taken ++ piece))),
      λ last. absurd (omega (arith, last, size, sum, more, whole.ended, length-map (lines_of all) seen_of)),
    )

pub stopped_fed : {A : Type 0} (steps : Steps A) (ends : Ends A) (first server : A) (number : ℕ) (begun : List ℕ) (l0 l1 l2 w0 w1 w2 : Option (List ℕ)) (piece text : List ℕ)
    (reads : ℕ) (fault : LinesFault) → IsCounted steps first server number begun l0 l1 w0 w1 reads → Consumes l1 l2 piece → Appends w1 w2 text
    → FedPart steps server number begun piece text fault → IsStopped steps ends first l0 l2 w0 w2 fault
stopped_fed steps ends first server number begun l0 l1 l2 w0 w1 w2 piece text reads fault c took went p = record {
  taken = c.taken ++ piece;
  consumed = Consumes-trans l0 l1 l2 c.taken piece c.consumed took;
  printed = c.printed ++ text;
  written = Appends-trans w0 w1 w2 c.printed text c.written went;
  why = why_part steps ends first server number begun c.taken piece c.printed text l2 fault c.fed p;
}

-- What was made didn't go out whole.
cut_short : {A : Type 0} (steps : Steps A) (ends : Ends A) (first : A) (left w0 w1 w2 : Option (List ℕ)) (taken printed text : List ℕ) (p : AppendsPrefix w1 w2 text)
    → ((n : ℕ) × AnswersFirst steps first (seen_lines taken) n (printed ++ text)) ⊎ (IsAtEnd left × ((last : A) × AnswersAll steps ends first 1 (seen_lines taken) (printed ++ text) last))
    → IsCutShort steps ends first left taken (printed ++ take p.count text)
cut_short steps ends first left w0 w1 w2 taken printed text p of_these = record {
  made = printed ++ text;
  count = length printed + p.count;
  front = sym (take-append-add printed text p.count);
  short = omega (arith, length-append printed text, p.short);
  of = of_these;
}

-- of a piece, what was made are the answers to some lines
made_of : {A T : Type 0} (steps : Steps A) (r : Result T LinesFault) (first s0 s1 : A) (n0 n1 : ℕ) (b0 b1 taken piece rest all printed text : List ℕ)
    → Fed steps first 1 [] taken s0 n0 b0 [] printed → OnOk r (Fed steps s0 n0 b0 piece s1 n1 b1 [] text) → IfErr r (FedPart steps s0 n0 b0 piece text)
    → all ≡ (taken ++ piece) ++ rest → (n : ℕ) × AnswersFirst steps first (seen_lines all) n (printed ++ text)
made_of steps (Ok x) first s0 s1 n0 n1 b0 b1 taken piece rest all printed text f more part is = (
  feeds_in (taken ++ piece),
  first_lines steps first s1 n1 b1 (taken ++ piece) rest all (printed ++ text) (fed_on steps first s0 s1 n0 n1 b0 b1 taken piece printed text f more) is,
)
made_of steps (Err e) first s0 s1 n0 n1 b0 b1 taken piece rest all printed text f more p is =
    (feeds_in (taken ++ p.taken), first_of_part steps first s0 n0 b0 taken piece rest all printed text e f p is)

pub stopped_write : {A T : Type 0} (steps : Steps A) (ends : Ends A) (r : Result T LinesFault) (first s0 s1 : A) (n0 n1 : ℕ) (b0 b1 : List ℕ) (l0 l1 l2 w0 w1 w2 : Option (List ℕ))
    (piece text : List ℕ) (reads : ℕ) → IsCounted steps first s0 n0 b0 l0 l1 w0 w1 reads → Consumes l1 l2 piece → AppendsPrefix w1 w2 text
    → OnOk r (Fed steps s0 n0 b0 piece s1 n1 b1 [] text) → IfErr r (FedPart steps s0 n0 b0 piece text) → IsStopped steps ends first l0 l2 w0 w2 Write
stopped_write steps ends r first s0 s1 n0 n1 b0 b1 l0 l1 l2 w0 w1 w2 piece text reads c took went more part = record {
  taken = c.taken ++ piece;
  consumed = Consumes-trans l0 l1 l2 c.taken piece c.consumed took;
  printed = c.printed ++ take went.count text;
  written = Appends-trans w0 w1 w2 c.printed (take went.count text) c.written went.front;
  why = cut_short steps ends first l2 w0 w1 w2 (c.taken ++ piece) c.printed text went
      (inl (made_of steps r first s0 s1 n0 n1 b0 b1 c.taken piece [] (c.taken ++ piece) c.printed text c.fed more part (sym (append-nil (c.taken ++ piece)))));
}

-- At the end of the input.

last_parts : {A : Type 0} (steps : Steps A) (first server : A) (number : ℕ) (begun taken printed : List ℕ)
    → (f : Fed steps first 1 [] taken server number begun [] printed) → seen_lines taken ≡ f.lines ++ seen_lines begun
last_parts steps first server number begun taken printed f =
    ap seen_lines (sym (append-nil taken)) ∙ f.left [] ∙ ap (λ b. f.lines ++ seen_lines b) (append-nil begun)

take_ended : (n : ℕ) (all front begun lines : Lines) → all ≡ front ++ begun → (lines ≡ []) ⊎ (lines ≡ begun) → n ≡ length front + length lines
    → take n all ≡ front ++ lines
take_ended n all front begun lines is (inl none) count =
    taken_first n all front begun is (omega (arith, count, ap (λ (l : Lines). length l) none)) ∙ sym (append-nil front) ∙ ap (λ l. front ++ l) (sym none)
take_ended n all front begun lines is (inr whole) count =
    taken_first n all (front ++ lines) [] (is ∙ ap (λ l. front ++ l) (sym whole) ∙ sym (append-nil (front ++ lines)))
    (omega (arith, count, length-append front lines))

ended_low : (begun lines : Lines) → (lines ≡ []) ⊎ (lines ≡ begun) → length lines ≤ length begun
ended_low begun lines (inl none) = omega (arith, ap (λ (l : Lines). length l) none)
ended_low begun lines (inr whole) = omega (arith, ap (λ (l : Lines). length l) whole)

first_at_end : {A : Type 0} (steps : Steps A) (first server : A) (number : ℕ) (begun taken printed text : List ℕ) (fault : LinesFault)
    → Fed steps first 1 [] taken server number begun [] printed → (p : EndedPart steps server number begun text fault)
    → AnswersFirst steps first (seen_lines taken) (feeds_in taken + length p.lines) (printed ++ text)
first_at_end steps first server number begun taken printed text fault f p =
    let parts = last_parts steps first server number begun taken printed f in
    let n = feeds_in taken + length p.lines in
    let same = take_ended n (seen_lines taken) f.lines (seen_lines begun) p.lines parts p.of (omega (arith, f.ended)) in
    let run = run_more steps first server p.server_new 1 number f.lines p.lines printed text f.counted
    (subst (λ t. Runs steps first 1 f.lines t server) (sym f.added) f.runs) p.runs in record {
      server = p.server_new;
      within = omega (arith, ap (λ (l : Lines). length l) parts, length-append f.lines (seen_lines begun), f.ended, ended_low (seen_lines begun) p.lines p.of);
      runs = subst (λ l. Runs steps first 1 l (printed ++ text) p.server_new) (sym same) run;
    }

all_at_end : {A : Type 0} (steps : Steps A) (ends : Ends A) (first server last : A) (number : ℕ) (begun taken printed text : List ℕ)
    → Fed steps first 1 [] taken server number begun [] printed → AnswersAll steps ends server number (seen_lines begun) text last
    → AnswersAll steps ends first 1 (seen_lines taken) (printed ++ text) last
all_at_end steps ends first server last number begun taken printed text f a =
    let parts = last_parts steps first server number begun taken printed f in
    let size = ap (λ (l : Lines). length l) parts in
    let run = run_more steps first server last 1 number f.lines (seen_lines begun) printed a.answers f.counted
    (subst (λ t. Runs steps first 1 f.lines t server) (sym f.added) f.runs) a.runs in
    let count : number + length (seen_lines begun) ≡ 1 + length (seen_lines taken) =
    omega (arith, size, length-append f.lines (seen_lines begun), f.counted) in record {
      answers = printed ++ a.answers;
      behind = a.behind;
      is = ap (λ t. printed ++ t) a.is ∙ sym (append_assoc printed a.answers a.behind);
      runs = subst (λ l. Runs steps first 1 l (printed ++ a.answers) last) (sym parts) run;
      ended = subst (λ n. ends last n a.behind) count a.ended;
    }

why_ended : {A : Type 0} (steps : Steps A) (ends : Ends A) (first server : A) (number : ℕ) (begun taken printed text : List ℕ) (left : Option (List ℕ)) (fault : LinesFault)
    → Fed steps first 1 [] taken server number begun [] printed → EndedPart steps server number begun text fault → IsAtEnd left
    → StopsBy steps ends first left taken (printed ++ text) fault
why_ended steps ends first server number begun taken printed text left Read f p ended = absurd p.why
why_ended steps ends first server number begun taken printed text left Write f p ended = absurd p.why
why_ended steps ends first server number begun taken printed text left TooLong f p ended =
    let size = ap (λ (l : Lines). length l) (last_parts steps first server number begun taken printed f) in
    let sum = length-append f.lines (seen_lines begun) in
    let last = seen_begun begun p.why.1 in (
      (feeds_in taken + length p.lines, first_at_end steps first server number begun taken printed text TooLong f p),
      omega (arith, size, sum, last, lines_low taken, length-map (lines_of taken) seen_of, f.counted, p.why.0),
    )
why_ended steps ends first server number begun taken printed text left Memory f p ended =
    (feeds_in taken + length p.lines, first_at_end steps first server number begun taken printed text Memory f p, λ _. ended)

pub stopped_end : {A : Type 0} (steps : Steps A) (ends : Ends A) (first server : A) (number : ℕ) (begun : List ℕ) (l0 l1 l2 w0 w1 w2 : Option (List ℕ)) (text : List ℕ)
    (reads : ℕ) (fault : LinesFault) → IsCounted steps first server number begun l0 l1 w0 w1 reads → Consumes l1 l2 [] → IsAtEnd l2 → Appends w1 w2 text
    → EndedPart steps server number begun text fault → IsStopped steps ends first l0 l2 w0 w2 fault
stopped_end steps ends first server number begun l0 l1 l2 w0 w1 w2 text reads fault c took ended went p = record {
  taken = c.taken;
  consumed = took_all l0 l1 l2 c.taken c.consumed took;
  printed = c.printed ++ text;
  written = Appends-trans w0 w1 w2 c.printed text c.written went;
  why = why_ended steps ends first server number begun c.taken c.printed text l2 fault c.fed p ended;
}

ended_of : {A T : Type 0} (steps : Steps A) (ends : Ends A) (r : Result T LinesFault) (first server last : A) (number : ℕ) (begun taken printed text : List ℕ)
    (left : Option (List ℕ)) → Fed steps first 1 [] taken server number begun [] printed → IsAtEnd left
    → OnOk r (AnswersAll steps ends server number (seen_lines begun) text last) → IfErr r (EndedPart steps server number begun text)
    → ((n : ℕ) × AnswersFirst steps first (seen_lines taken) n (printed ++ text))
    ⊎ (IsAtEnd left × ((last : A) × AnswersAll steps ends first 1 (seen_lines taken) (printed ++ text) last))
ended_of steps ends (Ok x) first server last number begun taken printed text left f ended all part =
    inr (ended, (last, all_at_end steps ends first server last number begun taken printed text f all))
ended_of steps ends (Err e) first server last number begun taken printed text left f ended all p =
    inl (feeds_in taken + length p.lines, first_at_end steps first server number begun taken printed text e f p)

pub stopped_end_write : {A T : Type 0} (steps : Steps A) (ends : Ends A) (r : Result T LinesFault) (first server last : A) (number : ℕ) (begun : List ℕ)
    (l0 l1 l2 w0 w1 w2 : Option (List ℕ)) (text : List ℕ) (reads : ℕ) → IsCounted steps first server number begun l0 l1 w0 w1 reads → Consumes l1 l2 []
    → IsAtEnd l2 → AppendsPrefix w1 w2 text → OnOk r (AnswersAll steps ends server number (seen_lines begun) text last)
    → IfErr r (EndedPart steps server number begun text) → IsStopped steps ends first l0 l2 w0 w2 Write
stopped_end_write steps ends r first server last number begun l0 l1 l2 w0 w1 w2 text reads c took ended went all part = record {
  taken = c.taken;
  consumed = took_all l0 l1 l2 c.taken c.consumed took;
  printed = c.printed ++ take went.count text;
  written = Appends-trans w0 w1 w2 c.printed (take went.count text) c.written went.front;
  why = cut_short steps ends first l2 w0 w1 w2 c.taken c.printed text went
      (ended_of steps ends r first server last number begun c.taken c.printed text l2 c.fed ended all part);
}

-- a fault that was told is that of the writer, or of what was made
pub of_either : {M : Type 0} (fault : LinesFault) (made : Result M LinesFault) (P Q : Type 0) (X : LinesFault → Type 0)
    → ((fault ≡ Write) × P) ⊎ ((made ≡ Err fault) × Q) → (P → X Write) → ((f : LinesFault) → made ≡ Err f → Q → X f) → X fault
of_either fault made P Q X (inl cut) f g = subst X (sym cut.0) (f cut.1)
of_either fault made P Q X (inr other) f g = g fault other.0 other.1

pub of_fault : {T M : Type 0} (r : Result T LinesFault) (made : Result M LinesFault) (P Q : Type 0) (X : LinesFault → Type 0)
    → IfErr r (λ fault. ((fault ≡ Write) × P) ⊎ ((made ≡ Err fault) × Q)) → (P → X Write) → ((f : LinesFault) → made ≡ Err f → Q → X f) → IfErr r X
of_fault (Ok x) made P Q X told f g = tt
of_fault (Err e) made P Q X told f g = of_either e made P Q X told f g

pub of_made_fault : {M : Type 0} (made : Result M LinesFault) (fault : LinesFault) (X : LinesFault → Type 0) → made ≡ Err fault → IfErr made X → X fault
of_made_fault made fault X is told = subst (λ r. IfErr r X) is told

-- What went out, of all that a reader had.

pub all_served : {A : Type 0} (steps : Steps A) (ends : Ends A) (first server last : A) (number : ℕ) (begun : List ℕ) (l0 l1 l2 w0 w1 w2 : Option (List ℕ))
    (text : List ℕ) (reads : ℕ) → IsCounted steps first server number begun l0 l1 w0 w1 reads → Consumes l1 l2 [] → IsAtEnd l2 → Appends w1 w2 text
    → AnswersAll steps ends server number (seen_lines begun) text last → ServesAll steps ends first last l0 w0 w2
all_served steps ends first server last number begun l0 l1 l2 w0 w1 w2 text reads c took ended went all =
    at_end (λ source. (printed : List ℕ) × Appends w0 w2 printed × AnswersAll steps ends first 1 (seen_lines source) printed last) l0 l2 c.taken
    (took_all l0 l1 l2 c.taken c.consumed took) ended (
      c.printed ++ text,
      Appends-trans w0 w1 w2 c.printed text c.written went,
      all_at_end steps ends first server last number begun c.taken c.printed text c.fed all,
    )

pub part_counted : {A : Type 0} (steps : Steps A) (ends : Ends A) (first server : A) (number : ℕ) (begun : List ℕ) (l0 l1 w0 w1 : Option (List ℕ)) (reads : ℕ)
    → IsCounted steps first server number begun l0 l1 w0 w1 reads → ServesPart steps ends first l0 w0 w1
part_counted steps ends first server number begun l0 l1 w0 w1 reads c =
    of_source (λ source. (made : List ℕ) × IsMade steps ends first (seen_lines source) made × AppendsFront w0 w1 made) l0 l1 c.taken c.consumed (λ rest. (
      c.printed,
      inl (feeds_in c.taken, first_lines steps first server number begun c.taken rest (c.taken ++ rest) c.printed c.fed refl),
      front_of_whole w0 w1 c.printed c.written,
    ))

pub part_fed : {A T : Type 0} (steps : Steps A) (ends : Ends A) (r : Result T LinesFault) (first s0 s1 : A) (n0 n1 : ℕ) (b0 b1 : List ℕ)
    (l0 l1 l2 w0 w1 w2 : Option (List ℕ)) (piece text : List ℕ) (reads : ℕ) → IsCounted steps first s0 n0 b0 l0 l1 w0 w1 reads → Consumes l1 l2 piece
    → AppendsFront w1 w2 text → OnOk r (Fed steps s0 n0 b0 piece s1 n1 b1 [] text) → IfErr r (FedPart steps s0 n0 b0 piece text)
    → ServesPart steps ends first l0 w0 w2
part_fed steps ends r first s0 s1 n0 n1 b0 b1 l0 l1 l2 w0 w1 w2 piece text reads c took went more part =
    of_source (λ source. (made : List ℕ) × IsMade steps ends first (seen_lines source) made × AppendsFront w0 w2 made) l0 l2 (c.taken ++ piece)
    (Consumes-trans l0 l1 l2 c.taken piece c.consumed took) (λ rest. (
      c.printed ++ text,
      inl (made_of steps r first s0 s1 n0 n1 b0 b1 c.taken piece rest ((c.taken ++ piece) ++ rest) c.printed text c.fed more part refl),
      front_behind w0 w1 w2 c.printed text c.written went,
    ))

made_at_end : {P Q : Type 0} {A : Type 0} (Of : A → Type 0) → P ⊎ (Q × ((last : A) × Of last)) → P ⊎ ((last : A) × Of last)
made_at_end Of (inl part) = inl part
made_at_end Of (inr all) = inr all.1

pub part_ended : {A T : Type 0} (steps : Steps A) (ends : Ends A) (r : Result T LinesFault) (first server last : A) (number : ℕ) (begun : List ℕ)
    (l0 l1 l2 w0 w1 w2 : Option (List ℕ)) (text : List ℕ) (reads : ℕ) → IsCounted steps first server number begun l0 l1 w0 w1 reads → Consumes l1 l2 []
    → IsAtEnd l2 → AppendsFront w1 w2 text → OnOk r (AnswersAll steps ends server number (seen_lines begun) text last)
    → IfErr r (EndedPart steps server number begun text) → ServesPart steps ends first l0 w0 w2
part_ended steps ends r first server last number begun l0 l1 l2 w0 w1 w2 text reads c took ended went all part =
    at_end (λ source. (made : List ℕ) × IsMade steps ends first (seen_lines source) made × AppendsFront w0 w2 made) l0 l2 c.taken
    (took_all l0 l1 l2 c.taken c.consumed took) ended (
      c.printed ++ text,
      made_at_end (AnswersAll steps ends first 1 (seen_lines c.taken) (c.printed ++ text))
          (ended_of steps ends r first server last number begun c.taken c.printed text l2 c.fed ended all part),
      front_behind w0 w1 w2 c.printed text c.written went,
    )
