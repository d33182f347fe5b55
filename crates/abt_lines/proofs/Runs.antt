-- Runs of lines, one behind the other.
use Rattle.std.proofs.Common.{◌≡◌, ◌∙◌, inl, inr, ℕ, ◌+◌, ◌++◌, List, [], ◌∷◌, length, take, drop, Option, refl, sym, ap, subst, arith, append_assoc, append-nil, take-append-drop, length-take}
use Rattle.std.specs.Prelude.{Some, None}
use Rattle.std.specs.Io.KnownBytes.{Appends}
use Rattle.abt_lines.specs.Lines.{seen_lines}
use Rattle.abt_lines.specs.Runs.{AnswersAll, AnswersFirst, Ends, IsAnswering, IsMade, Runs, Steps}
use Rattle.abt_lines.specs.Served.{Begins, IsServed, IsServedPart, ServesAll, ServesPart}

abbrev pub Lines : Type 0
Lines = List (Option (List ℕ))

pub run_one : {A : Type 0} (steps : Steps A) (s0 s1 : A) (number : ℕ) (line : Option (List ℕ)) (said : List ℕ) → steps s0 number line said s1
    → Runs steps s0 number (line ∷ []) said s1
run_one steps s0 s1 number line said step = (s1, said, [], sym (append-nil said), step, (refl, refl))

-- a run, and then another
pub run_more : {A : Type 0} (steps : Steps A) (s0 s1 s2 : A) (n0 n1 : ℕ) (l1 l2 : Lines) (t1 t2 : List ℕ) → n1 ≡ n0 + length l1
    → Runs steps s0 n0 l1 t1 s1 → Runs steps s1 n1 l2 t2 s2 → Runs steps s0 n0 (l1 ++ l2) (t1 ++ t2) s2
run_more steps s0 s1 s2 n0 n1 [] l2 t1 t2 count (none, same) second =
    let next : n1 ≡ n0 = omega (arith, count) in
    subst (λ t. Runs steps s0 n0 l2 (t ++ t2) s2) (sym none) (subst (λ n. Runs steps s0 n l2 t2 s2) next (subst (λ s. Runs steps s n1 l2 t2 s2) same second))
run_more steps s0 s1 s2 n0 n1 (line ∷ lines) l2 t1 t2 count (mid, first, rest, is, step, more) second = (
  mid,
  first,
  rest ++ t2,
  ap (λ t. t ++ t2) is ∙ append_assoc first rest t2,
  step,
  run_more steps mid s1 s2 (n0 + 1) n1 lines l2 rest t2 (omega (arith, count)) more second,
)

-- Where a function says all answers, those to a run go on as the server then does.
pub run_said : {A : Type 0} (steps : Steps A) (ends : Ends A) (answers : A → ℕ → Lines → List ℕ) → IsAnswering steps ends answers → (s0 s1 : A) (number : ℕ)
    (lines : Lines) (said : List ℕ) → Runs steps s0 number lines said s1 → (more : Lines)
    → said ++ answers s1 (number + length lines) more ≡ answers s0 number (lines ++ more)
run_said steps ends answers is s0 s1 number [] said (none, same) more =
    let next : number + 0 ≡ number = omega arith in
    ap (λ t. t ++ answers s1 (number + 0) more) none ∙ ap (λ n. answers s1 n more) next ∙ ap (λ s. answers s number more) same
run_said steps ends answers is s0 s1 number (line ∷ lines) said (mid, first, rest, parts, step, run) more =
    let next : number + length (line ∷ lines) ≡ number + 1 + length lines = omega arith in
    ap (λ t. t ++ answers s1 (number + length (line ∷ lines)) more) parts ∙ append_assoc first rest (answers s1 (number + length (line ∷ lines)) more)
    ∙ ap (λ n. first ++ (rest ++ answers s1 n more)) next
    ∙ ap (λ t. first ++ t) (run_said steps ends answers is mid s1 (number + 1) lines rest run more)
    ∙ sym (is.stepped s0 mid number line first step (lines ++ more))

all_said : {A : Type 0} (steps : Steps A) (ends : Ends A) (answers : A → ℕ → Lines → List ℕ) → IsAnswering steps ends answers → (first last : A) (lines : Lines)
    (text : List ℕ) → AnswersAll steps ends first 1 lines text last → text ≡ answers first 1 lines
all_said steps ends answers is first last lines text all =
    all.is ∙ ap (λ t. all.answers ++ t) (sym (is.ended last (1 + length lines) all.behind all.ended))
    ∙ run_said steps ends answers is first last 1 lines all.answers all.runs [] ∙ ap (answers first 1) (append-nil lines)

begins_by : (a b c : List ℕ) → a ++ b ≡ c → Begins a c
begins_by a b c e = record { rest = b; is = sym e }

made_said : {A : Type 0} (steps : Steps A) (ends : Ends A) (answers : A → ℕ → Lines → List ℕ) → IsAnswering steps ends answers → (first : A) (lines : Lines)
    (text : List ℕ) → IsMade steps ends first lines text → Begins text (answers first 1 lines)
made_said steps ends answers is first lines text (inl (n, part)) =
    begins_by text (answers part.server (1 + length (take n lines)) (drop n lines)) (answers first 1 lines)
    (run_said steps ends answers is first part.server 1 (take n lines) text part.runs (drop n lines) ∙ ap (answers first 1) (take-append-drop n lines))
made_said steps ends answers is first lines text (inr (last, all)) =
    begins_by text [] (answers first 1 lines) (append-nil text ∙ all_said steps ends answers is first last lines text all)

front_of : (a b c : List ℕ) → Begins a b → Begins b c → Begins a c
front_of a b c p q = record { rest = p.rest ++ q.rest; is = q.is ∙ ap (λ front. front ++ q.rest) p.is ∙ append_assoc a p.rest q.rest }

pub all_served : {A : Type 0} (steps : Steps A) (ends : Ends A) (answers : A → ℕ → Lines → List ℕ) → IsAnswering steps ends answers → (first last : A)
    (left old new : Option (List ℕ)) → ServesAll steps ends first last left old new → IsServed (λ source. answers first 1 (seen_lines source)) left old new
all_served steps ends answers is first last None old new all = tt
all_served steps ends answers is first last (Some source) old new (printed, went, all) =
    subst (Appends old new) (all_said steps ends answers is first last (seen_lines source) printed all) went

pub part_served : {A : Type 0} (steps : Steps A) (ends : Ends A) (answers : A → ℕ → Lines → List ℕ) → IsAnswering steps ends answers → (first : A)
    (left old new : Option (List ℕ)) → ServesPart steps ends first left old new → IsServedPart (λ source. answers first 1 (seen_lines source)) left old new
part_served steps ends answers is first None old new part = tt
part_served steps ends answers is first (Some source) old new (made, of, went) = record {
  printed = went.printed;
  written = went.written;
  front = front_of went.printed made _ went.front (made_said steps ends answers is first (seen_lines source) made of);
}

-- the server behind the first lines answers the next ones
pub first_said : {A : Type 0} (steps : Steps A) (ends : Ends A) (answers : A → ℕ → Lines → List ℕ) → IsAnswering steps ends answers → (first : A) (lines : Lines)
    (count : ℕ) (text : List ℕ) → AnswersFirst steps first lines count text
    → (server : A) × ((more : Lines) → text ++ answers server (count + 1) more ≡ answers first 1 (take count lines ++ more))
first_said steps ends answers is first lines count text part =
    let next : 1 + length (take count lines) ≡ count + 1 = omega (arith, length-take count lines, part.within) in (
      part.server,
      λ more. ap (λ n. text ++ answers part.server n more) (sym next) ∙ run_said steps ends answers is first part.server 1 (take count lines) text part.runs more,
    )
