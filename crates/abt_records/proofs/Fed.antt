-- Pieces of the input one after the other: which records end in them, and which answers there are.
use Rattle.std.proofs.Common.{◌≡◌, ◌∙◌, ℕ, ◌+◌, ◌<◌, ◌≤◌, ◌++◌, List, [], ◌∷◌, length, take, drop, get_or, Option, refl, sym, ap, subst, append_assoc, append-nil, take-append-drop, true, false}
use Rattle.std.specs.Prelude.{Result, Ok, Err, OnOk, OnErr}
use Rattle.std.specs.Io.KnownBytes.{Appends, Consumes, IsAtEnd}
use Rattle.std.proofs.KnownBytes.{Appends-trans, Consumes-trans, Consumes-nil, Appends-nil}
use Rattle.std.proofs.lemmas.Bool.{cond-true, cond-false}
use Rattle.std.proofs.lemmas.List.{take_more, take_all}
use Rattle.abt_lines.specs.Served.{AppendsFront}
use Rattle.abt_records.specs.Fed.{Fed, FedPart}
use Rattle.abt_records.specs.Records.{ended_by, ends_with, go_on, left_of, record_of, records_behind, records_of}
use Rattle.abt_records.specs.Runs.{Adds, AnswersFirst, Runs, Steps}
use Rattle.abt_records.specs.Served.{ServesRecords, ServesSome}
use Rattle.abt_records.proofs.Pieces.{at_end, front_behind, front_of_whole, of_source}

abbrev pub Seen : Type 0
Seen = List (Option (List ℕ))

run_one : {A : Type 0} (steps : Steps A) (s0 s1 : A) (seen : Option (List ℕ)) (said : List ℕ) → steps s0 seen said s1 → Runs steps s0 (seen ∷ []) said s1
run_one steps s0 s1 seen said step = (s1, said, [], sym (append-nil said), step, (refl, refl))

-- a run, and then another
pub run_more : {A : Type 0} (steps : Steps A) (s0 s1 s2 : A) (r1 r2 : Seen) (t1 t2 : List ℕ) → Runs steps s0 r1 t1 s1 → Runs steps s1 r2 t2 s2
    → Runs steps s0 (r1 ++ r2) (t1 ++ t2) s2
run_more steps s0 s1 s2 [] r2 t1 t2 (none, same) second =
    subst (λ t. Runs steps s0 r2 (t ++ t2) s2) (sym none) (subst (λ s. Runs steps s r2 t2 s2) same second)
run_more steps s0 s1 s2 (seen ∷ records) r2 t1 t2 (mid, first, rest, is, step, more) second =
    (mid, first, rest ++ t2, ap (λ t. t ++ t2) is ∙ append_assoc first rest t2, step, run_more steps mid s1 s2 records r2 rest t2 more second)

-- nothing is taken
pub fed_none : {A : Type 0} (steps : Steps A) (server : A) (begun text : List ℕ) → Fed steps server begun [] server begun text text
fed_none steps server begun text = record {
  records = [];
  said = [];
  added = sym (append-nil text);
  runs = (refl, refl);
  left = λ rest. refl;
}

-- a piece, and then another
pub fed_more : {A : Type 0} (steps : Steps A) (s0 s1 s2 : A) (b0 b1 b2 p1 p2 t0 t1 t2 : List ℕ)
    → Fed steps s0 b0 p1 s1 b1 t0 t1 → Fed steps s1 b1 p2 s2 b2 t1 t2 → Fed steps s0 b0 (p1 ++ p2) s2 b2 t0 t2
fed_more steps s0 s1 s2 b0 b1 b2 p1 p2 t0 t1 t2 f g = record {
  records = f.records ++ g.records;
  said = f.said ++ g.said;
  added = g.added ∙ ap (λ t. t ++ g.said) f.added ∙ append_assoc t0 f.said g.said;
  runs = run_more steps s0 s1 s2 f.records g.records f.said g.said f.runs g.runs;
  left = λ rest. ap (λ r. records_behind b0 r) (append_assoc p1 p2 rest) ∙ f.left (p2 ++ rest) ∙ ap (λ l. f.records ++ l) (g.left rest)
      ∙ sym (append_assoc f.records g.records (records_behind b2 rest));
}

-- an octet that ends a record, which is answered
pub fed_whole : {A : Type 0} (steps : Steps A) (s0 s1 : A) (begun next : List ℕ) (octet : ℕ) (octets old new : List ℕ) → ends_with begun octet ≡ true
    → octets ≡ ended_by begun octet → Adds old new (λ said. steps s0 (record_of octets) said s1) → next ≡ []
    → Fed steps s0 begun (octet ∷ []) s1 next old new
fed_whole steps s0 s1 begun next octet octets old new ends are added none = record {
  records = record_of (ended_by begun octet) ∷ [];
  said = added.0;
  added = added.1;
  runs = subst (λ o. Runs steps s0 (record_of o ∷ []) added.0 s1) are (run_one steps s0 s1 (record_of octets) added.0 added.2);
  left = λ rest. cond-true _ _ _ ends ∙ ap (λ b. record_of (ended_by begun octet) ∷ records_behind b rest) (sym none);
}

-- one that doesn't
pub fed_on : {A : Type 0} (steps : Steps A) (server : A) (begun next : List ℕ) (octet : ℕ) (text : List ℕ) → ends_with begun octet ≡ false
    → next ≡ go_on begun octet → Fed steps server begun (octet ∷ []) server next text text
fed_on steps server begun next octet text ends is = record {
  records = [];
  said = [];
  added = sym (append-nil text);
  runs = (refl, refl);
  left = λ rest. cond-false _ _ _ ends ∙ ap (λ b. records_behind b rest) (sym is);
}

-- the same behind a text
pub fed_behind : {A : Type 0} (steps : Steps A) (s0 s1 : A) (b0 b1 piece before text : List ℕ)
    → Fed steps s0 b0 piece s1 b1 [] text → Fed steps s0 b0 piece s1 b1 before (before ++ text)
fed_behind steps s0 s1 b0 b1 piece before text f = record {
  records = f.records;
  said = f.said;
  added = ap (λ t. before ++ t) f.added;
  runs = f.runs;
  left = f.left;
}

-- What was taken and what went out: exactly the answers to the records that end in it.
pub record IsCounted {A : Type 0} (steps : Steps A) (first server : A) (begun : List ℕ) (left_old left_new old new : Option (List ℕ)) : Type 0 where
  pub taken : List ℕ
  pub consumed : Consumes left_old left_new taken
  pub printed : List ℕ
  pub written : Appends old new printed
  pub fed : Fed steps first [] taken server begun [] printed

pub counted_first : {A : Type 0} (steps : Steps A) (first : A) (begun : List ℕ) (left out : Option (List ℕ)) → begun ≡ []
    → IsCounted steps first first begun left left out out
counted_first steps first begun left out none = record {
  taken = [];
  consumed = Consumes-nil left;
  printed = [];
  written = Appends-nil out;
  fed = subst (λ b. Fed steps first [] [] first b [] []) (sym none) (fed_none steps first [] []);
}

pub counted_more : {A : Type 0} (steps : Steps A) (first s1 s2 : A) (b1 b2 : List ℕ) (l0 l1 l2 w0 w1 w2 : Option (List ℕ)) (piece text : List ℕ)
    → IsCounted steps first s1 b1 l0 l1 w0 w1 → Consumes l1 l2 piece → Appends w1 w2 text
    → Fed steps s1 b1 piece s2 b2 [] text → IsCounted steps first s2 b2 l0 l2 w0 w2
counted_more steps first s1 s2 b1 b2 l0 l1 l2 w0 w1 w2 piece text c took went f = record {
  taken = c.taken ++ piece;
  consumed = Consumes-trans l0 l1 l2 c.taken piece c.consumed took;
  printed = c.printed ++ text;
  written = Appends-trans w0 w1 w2 c.printed text c.written went;
  fed = fed_more steps first s1 s2 [] b1 b2 c.taken piece [] c.printed (c.printed ++ text) c.fed (fed_behind steps s1 s2 b1 b2 piece c.printed text f);
}

-- the records of what was taken
whole_records : {A : Type 0} (steps : Steps A) (first server : A) (begun taken text : List ℕ) (f : Fed steps first [] taken server begun [] text)
    → records_of taken ≡ f.records ++ left_of begun
whole_records steps first server begun taken text f = ap records_of (sym (append-nil taken)) ∙ f.left []

-- At the end of the input all is answered.
pub all_served : {A : Type 0} (steps : Steps A) (first s1 s2 : A) (begun : List ℕ) (l0 l1 l2 w0 w1 w2 : Option (List ℕ)) (text : List ℕ)
    → IsCounted steps first s1 begun l0 l1 w0 w1 → Consumes l1 l2 [] → IsAtEnd l2 → Appends w1 w2 text → Runs steps s1 (records_behind begun []) text s2
    → ServesRecords steps first s2 l0 w0 w2
all_served steps first s1 s2 begun l0 l1 l2 w0 w1 w2 text c none ended went runs =
    at_end _ l0 l2 c.taken (subst (Consumes l0 l2) (append-nil c.taken) (Consumes-trans l0 l1 l2 c.taken [] c.consumed none)) ended (
      c.printed ++ text,
      Appends-trans w0 w1 w2 c.printed text c.written went,
      subst (λ r. Runs steps first r (c.printed ++ text) s2) (sym (whole_records steps first s1 begun c.taken c.printed c.fed))
          (run_more steps first s1 s2 c.fed.records (left_of begun) c.printed text (subst (λ t. Runs steps first c.fed.records t s1) (sym c.fed.added) c.fed.runs) runs),
    )

-- a beginning of what was taken is answered
first_answered : {A : Type 0} (steps : Steps A) (first server : A) (begun front text rest : List ℕ) → Fed steps first [] front server begun [] text
    → AnswersFirst steps first (records_of (front ++ rest)) text
first_answered steps first server begun front text rest f = record {
  answered = f.records;
  more = records_behind begun rest;
  are = f.left rest;
  server = server;
  runs = subst (λ t. Runs steps first f.records t server) (sym f.added) f.runs;
}

-- what went out so far is answers to the first records
pub part_counted : {A : Type 0} (steps : Steps A) (first server : A) (begun : List ℕ) (l0 l1 w0 w1 : Option (List ℕ))
    → IsCounted steps first server begun l0 l1 w0 w1 → ServesSome steps first l0 w0 w1
part_counted steps first server begun l0 l1 w0 w1 c =
    of_source _ l0 l1 c.taken c.consumed (λ rest. (c.printed, first_answered steps first server begun c.taken c.printed rest c.fed, front_of_whole w0 w1 c.printed c.written))

-- an octet more of a piece
pub fed_take : {A : Type 0} (steps : Steps A) (s0 s1 s2 : A) (b0 b1 b2 piece t0 t1 t2 : List ℕ) (i : ℕ) → Fed steps s0 b0 (take i piece) s1 b1 t0 t1 → i < length piece
    → Fed steps s1 b1 (get_or piece i 0 ∷ []) s2 b2 t1 t2 → Fed steps s0 b0 (take (i + 1) piece) s2 b2 t0 t2
fed_take steps s0 s1 s2 b0 b1 b2 piece t0 t1 t2 i f low g =
    subst (λ p. Fed steps s0 b0 p s2 b2 t0 t2) (sym (take_more piece i 0 low))
    (fed_more steps s0 s1 s2 b0 b1 b2 (take i piece) (get_or piece i 0 ∷ []) t0 t1 t2 f g)

-- all of a piece
pub fed_all : {A : Type 0} (steps : Steps A) (s0 s1 : A) (b0 b1 piece t0 t1 : List ℕ) (i : ℕ) → length piece ≤ i → Fed steps s0 b0 (take i piece) s1 b1 t0 t1
    → Fed steps s0 b0 piece s1 b1 t0 t1
fed_all steps s0 s1 b0 b1 piece t0 t1 i past f = subst (λ p. Fed steps s0 b0 p s1 b1 t0 t1) (take_all i piece past) f

-- and not all of it
pub fed_part : {A : Type 0} (steps : Steps A) (s0 s1 : A) (b0 b1 piece text new : List ℕ) (i : ℕ) → Fed steps s0 b0 (take i piece) s1 b1 [] text → new ≡ text
    → FedPart steps s0 b0 piece new
fed_part steps s0 s1 b0 b1 piece text new i f same = record {
  taken = take i piece;
  rest = drop i piece;
  is = sym (take-append-drop i piece);
  server_new = s1;
  begun_new = b1;
  fed = subst (λ t. Fed steps s0 b0 (take i piece) s1 b1 [] t) (sym same) f;
}

-- What is left at the end began to be answered.
pub part_ended : {A E : Type 0} (steps : Steps A) (ended : Result (Unit {0}) E) (first s1 s2 : A) (begun : List ℕ) (l0 l1 l2 w0 w1 w2 : Option (List ℕ)) (text : List ℕ)
    → IsCounted steps first s1 begun l0 l1 w0 w1 → Consumes l1 l2 [] → IsAtEnd l2 → AppendsFront w1 w2 text
    → OnOk ended (Runs steps s1 (records_behind begun []) text s2) → OnErr ended (text ≡ []) → ServesSome steps first l0 w0 w2
part_ended steps (Ok done) first s1 s2 begun l0 l1 l2 w0 w1 w2 text c none ended went runs silent =
    at_end _ l0 l2 c.taken (subst (Consumes l0 l2) (append-nil c.taken) (Consumes-trans l0 l1 l2 c.taken [] c.consumed none)) ended (
      c.printed ++ text,
      record {
        answered = c.fed.records ++ left_of begun;
        more = [];
        are = whole_records steps first s1 begun c.taken c.printed c.fed ∙ sym (append-nil (c.fed.records ++ left_of begun));
        server = s2;
        runs = run_more steps first s1 s2 c.fed.records (left_of begun) c.printed text (subst (λ t. Runs steps first c.fed.records t s1) (sym c.fed.added) c.fed.runs) runs;
      },
      front_behind w0 w1 w2 c.printed text c.written went,
    )
part_ended steps (Err fault) first s1 s2 begun l0 l1 l2 w0 w1 w2 text c none ended went runs silent =
    of_source _ l0 l1 c.taken c.consumed (λ rest. (
      c.printed,
      first_answered steps first s1 begun c.taken c.printed rest c.fed,
      subst (AppendsFront w0 w2) (ap (λ t. c.printed ++ t) silent ∙ append-nil c.printed) (front_behind w0 w1 w2 c.printed text c.written went),
    ))

fed_front : {A : Type 0} (steps : Steps A) (first s1 s2 : A) (b1 b2 : List ℕ) (l0 l1 l2 w0 w1 w2 : Option (List ℕ)) (piece taken rest text : List ℕ)
    → IsCounted steps first s1 b1 l0 l1 w0 w1 → Consumes l1 l2 piece → piece ≡ taken ++ rest → Fed steps s1 b1 taken s2 b2 [] text → AppendsFront w1 w2 text
    → ServesSome steps first l0 w0 w2
fed_front steps first s1 s2 b1 b2 l0 l1 l2 w0 w1 w2 piece taken rest text c took is f went =
    of_source _ l0 l2 (c.taken ++ piece) (Consumes-trans l0 l1 l2 c.taken piece c.consumed took) (λ more. (
      c.printed ++ text,
      subst (λ source. AnswersFirst steps first (records_of source) (c.printed ++ text))
          (append_assoc c.taken taken (rest ++ more) ∙ ap (λ t. c.taken ++ t) (sym (append_assoc taken rest more) ∙ ap (λ t. t ++ more) (sym is))
          ∙ sym (append_assoc c.taken piece more))
          (first_answered steps first s2 b2 (c.taken ++ taken) (c.printed ++ text) (rest ++ more)
          (fed_more steps first s1 s2 [] b1 b2 c.taken taken [] c.printed (c.printed ++ text) c.fed (fed_behind steps s1 s2 b1 b2 taken c.printed text f))),
      front_behind w0 w1 w2 c.printed text c.written went,
    ))

-- What was made of a piece began to go out.
pub part_fed : {A E : Type 0} (steps : Steps A) (fed : Result (Unit {0}) E) (first s1 s2 : A) (b1 b2 : List ℕ) (l0 l1 l2 w0 w1 w2 : Option (List ℕ)) (piece text : List ℕ)
    → IsCounted steps first s1 b1 l0 l1 w0 w1 → Consumes l1 l2 piece → AppendsFront w1 w2 text
    → OnOk fed (Fed steps s1 b1 piece s2 b2 [] text) → OnErr fed (FedPart steps s1 b1 piece text) → ServesSome steps first l0 w0 w2
part_fed steps (Ok done) first s1 s2 b1 b2 l0 l1 l2 w0 w1 w2 piece text c took went f part =
    fed_front steps first s1 s2 b1 b2 l0 l1 l2 w0 w1 w2 piece piece [] text c took (sym (append-nil piece)) f went
part_fed steps (Err fault) first s1 s2 b1 b2 l0 l1 l2 w0 w1 w2 piece text c took went f part =
    fed_front steps first s1 part.server_new b1 part.begun_new l0 l1 l2 w0 w1 w2 piece part.taken part.rest text c took part.is part.fed went
