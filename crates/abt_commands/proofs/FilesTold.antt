-- One file more is told behind those before it.
use Rattle.std.proofs.Common.{◌≡◌, ◌∙◌, ◌+◌, ◌<◌, ◌++◌, ◌||◌, ℕ, Bool, true, false, List, [], ◌∷◌, None, Some, Option, String, Result, Ok, Err, ap, sym, subst, refl, length, take, drop, get_or, add-one, drop-cons, arith}
use Rattle.std.specs.declared.alloc.Global.{Global}
use Rattle.std.specs.Io.KnownBytes.{Appends, Keeps}
use Rattle.std.specs.Prelude.{IfErr, IsErrAnd, string_bytes}
use Rattle.std.proofs.KnownBytes.{Keeps-refl}
use Rattle.std.proofs.lemmas.List.{length-take-le, take_more}
use Rattle.abt_check.specs.declared.named.FileForm.{FileForm}
use Rattle.abt_check.specs.declared.named.FileSaid.{FileSaid}
use Rattle.abt_text.specs.Text.{Text}
use Rattle.abt_commands.specs.CheckedFiles.{AreTold, AreToldPart, IsSaidOf, IsTold, IsUntold}
use Rattle.abt_perform.specs.declared.fault.Fault.{Fault}

kept_appends : (a b c : Option (List ℕ)) (bs : List ℕ) → Keeps a b → Appends b c bs → Appends a c bs
kept_appends None b c bs p q = tt
kept_appends (Some x) None c bs p q = absurd p
kept_appends (Some x) (Some y) None bs p q = absurd q
kept_appends (Some x) (Some y) (Some z) bs p q = q ∙ ap (λ l. l ++ bs) p

or_false : (b : Bool) → b ≡ b || false
or_false true = refl
or_false false = refl

or_assoc : (x y z : Bool) → (x || y) || z ≡ x || (y || z)
or_assoc true y z = refl
or_assoc false y z = refl

-- what is told behind something that stays
told_behind : (Says : FileSaid → Type 0) (faulty : Bool) (old between new : Option Text) → Keeps old between
    → IsTold Says faulty between new → IsTold Says faulty old new
told_behind Says faulty old between new keeps told = record {
  said = told.said;
  says = told.says;
  is_faulty = told.is_faulty;
  written = kept_appends old between new _ keeps told.written;
}

pub one_more : (form : FileForm) (number : ℕ) (names : List (String Global)) (name : String Global) (faulty more : Bool) (old between new : Option Text)
    → AreTold form number names faulty old between
    → IsTold (IsSaidOf form (number + length names) (string_bytes name)) more between new
    → AreTold form number (names ++ name ∷ []) (faulty || more) old new
one_more form number [] name faulty more old between new (none, keeps) told =
    let here : IsTold (IsSaidOf form number (string_bytes name)) more between new =
    subst (λ n. IsTold (IsSaidOf form n (string_bytes name)) more between new) (omega arith) told in
    (more, false, new, ap (λ b. b || more) none ∙ or_false more, told_behind _ more old between new keeps here, (refl, Keeps-refl new))
one_more form number (n ∷ names) name faulty more old between new (first, others, middle, is, begun, rest) told =
    let there : IsTold (IsSaidOf form (number + 1 + length names) (string_bytes name)) more between new =
    subst (λ k. IsTold (IsSaidOf form k (string_bytes name)) more between new) (omega arith) told in (
      first,
      others || more,
      middle,
      ap (λ b. b || more) is ∙ or_assoc first others more,
      begun,
      one_more form (number + 1) names name others more middle between new rest there,
    )

-- one file more of those that are named
pub next_file : (form : FileForm) (i : ℕ) (names : List (String Global)) (name : String Global) (faulty more : Bool) (old between new : Option Text)
    → i < length names → name ≡ get_or names i name → AreTold form 1 (take i names) faulty old between
    → IsTold (IsSaidOf form (i + 1) (string_bytes name)) more between new → AreTold form 1 (take (i + 1) names) (faulty || more) old new
next_file form i names name faulty more old between new low is before told =
    let count : length (take i names) ≡ i = length-take-le i names (omega (arith, low)) in
    let here : IsTold (IsSaidOf form (1 + length (take i names)) (string_bytes name)) more between new =
    subst (λ n. IsTold (IsSaidOf form n (string_bytes name)) more between new) (omega (arith, count)) told in
    let same : take i names ++ name ∷ [] ≡ take (i + 1) names =
    ap (λ x. take i names ++ x ∷ []) is ∙ sym (take_more names i name low) in
    subst (λ ns. AreTold form 1 ns (faulty || more) old new) same (one_more form 1 (take i names) name faulty more old between new before here)

-- a file isn't told
pub untold_file : (form : FileForm) (i : ℕ) (names : List (String Global)) (name : String Global) (faulty : Bool) (fault : Fault)
    (old between new : Option Text) → i < length names → name ≡ get_or names i name → AreTold form 1 (take i names) faulty old between
    → IsUntold (IsSaidOf form (i + 1) (string_bytes name)) fault between new → AreToldPart form names fault old new
untold_file form i names name faulty fault old between new low is before untold = record {
  count = i;
  name = name;
  others = drop (i + 1) names;
  stands = rw (drop-cons names i name, ← is, add-one) refl;
  faulty = faulty;
  between = between;
  before = before;
  untold = untold;
}

-- the fault that is handed on
pub carried : {T : Type 0} (P : Fault → Type 0) (result : Result T Fault) (fault : Fault) → IsErrAnd result (λ told. told ≡ fault)
    → P fault → IfErr result P
carried P (Ok value) fault same holds = tt
carried P (Err told) fault same holds = subst P (sym same) holds
